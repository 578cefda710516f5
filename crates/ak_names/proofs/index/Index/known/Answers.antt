use Rattle.std.proofs.Common.{IfSome, Option, Bor, List, ℕ, None, Some}
use Rattle.ak_names.specs.Known.{AreNumbers, names_at, NamesThese}
use Rattle.ak_names.specs.Names.{DoesName}
use Rattle.ak_names.proofs.Memos.{known_names}
use Rattle.ak_names.proofs.index.Index.known.Goals as goal

numbers_of : (names : List (List ℕ)) (text : List ℕ) (o : Option (Bor (List ℕ))) → IfSome o (λ numbers. NamesThese names (text, numbers.now)) → IfSome o (λ numbers. AreNumbers names numbers.now)
numbers_of names text None h = tt
numbers_of names text (Some numbers) h = h.known

names_of : (names : List (List ℕ)) (text : List ℕ) (o : Option (Bor (List ℕ))) → IfSome o (λ numbers. NamesThese names (text, numbers.now)) → IfSome o (λ numbers. DoesName text (names_at names numbers.now))
names_of names text None h = tt
names_of names text (Some numbers) h = h.named

pub returns-clause-known : goal.returns-clause-known
returns-clause-known c =
    rw (← c.self.view_is) (numbers_of _ _ c.find.result (known_names _ c.self.inside.memo c.args.text.now c.find.result c.self.invariant.1 c.find.ensures))

pub returns-clause-names : goal.returns-clause-names
returns-clause-names c =
    rw (← c.self.view_is) (names_of _ _ c.find.result (known_names _ c.self.inside.memo c.args.text.now c.find.result c.self.invariant.1 c.find.ensures))
