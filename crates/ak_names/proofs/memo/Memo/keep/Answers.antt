use Rattle.std.proofs.Common.{◌≡◌, ◌+◌, ◌∙◌, ◌++◌, ◌∷◌, [], ap, ap₂, rules, List, ℕ, map, length, string_bytes, inr, sym}
use Rattle.std.specs.List.{sum_by}
use Rattle.ak_names.specs.Known.{AreFew}
use Rattle.ak_names.proofs.Memos.{kept_last, counted_last}
use Rattle.ak_names.proofs.memo.Memo.keep.Goals as goal

-- the text goes last
last : (c : goal.After-self-2-1) → map {B = List ℕ × List ℕ} (λ e. (string_bytes e.0, e.1.items)) c.insert.new.self.entries
    ≡ map {B = List ℕ × List ℕ} (λ e. (string_bytes e.0, e.1.items)) c.self.inside.texts.entries ++ (c.in-Ok.text.now, c.args.numbers.now) ∷ []
last c =
    let key_is : string_bytes c.in_ok-key.key ≡ c.in-Ok.text.now = search rules in
    ap (map {B = List ℕ × List ℕ} (λ e. (string_bytes e.0, e.1.items))) c.in_ok-insert.ensures.entries
    ∙ kept_last c.in_ok-key.key c.in_ok-kept.kept c.self.inside.texts.entries c.in-Ok.text.now key_is (sym c.contains_key.ensures ∙ c.if-contains_key.false)
    ∙ ap (λ (ns : List ℕ). map {B = List ℕ × List ℕ} (λ e. (string_bytes e.0, e.1.items)) c.self.inside.texts.entries ++ (c.in-Ok.text.now, ns) ∷ []) c.in_ok-kept.ensures.items

pub invariant_of-self-2 : goal.invariant_of-self-2
invariant_of-self-2 c =
    let kept = map {B = List ℕ × List ℕ} (λ e. (string_bytes e.0, e.1.items)) c.self.inside.texts.entries in
    let few : AreFew (length kept + 1) (sum_by (λ e. length e.0) kept + length c.in-Ok.text.now) (sum_by (λ e. length e.1) kept + length c.args.numbers.now) = rw c.self.view_is (c.has_room.ensures c.if-not-has_room.false) in
    rw (last c) (counted_last kept c.self.inside.bytes c.self.inside.numbers c.in-Ok.text.now c.args.numbers.now c.self.invariant few)

pub returns : goal.returns
returns c =
    let text_is : c.in-Ok.text.now ≡ c.args.text.now = search rules in
    inr (last c ∙ ap₂ (λ (kept : List (List ℕ × List ℕ)) (t : List ℕ). kept ++ (t, c.args.numbers.now) ∷ []) c.self.view_is text_is)
