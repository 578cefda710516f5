-- What words ask for, and that they ask for one thing.
use Rattle.std.proofs.Common.{ℕ, ◌≡◌, ◌≢◌, ◌<◌, ◌≤◌, ◌+◌, ◌%◌, ◌⊎◌, inl, inr, List, [], ◌∷◌, length, get_or, drop, arith, rules, sym, ◌∙◌, ap, refl, subst, codes, Option, Some, None, MatchOption, true, false, Result, Ok, Err, IfOk, IfErr, map}
use Rattle.std.specs.Option.{is_some}
use Rattle.std.specs.List.{AllByRecursion}
use Rattle.ak_base.specs.declared.limits.Limits.{Limits}
use Rattle.ak_base.specs.Ranges.{AreLimits}
use Rattle.ak_words.specs.declared.job.Command.{Command}
use Rattle.ak_words.specs.declared.job.Command.TheVariants.{Create, Run, Scratch}
use Rattle.ak_words.specs.declared.job.Job.{Job}
use Rattle.ak_words.specs.declared.job.WordsError.{WordsError}
use Rattle.ak_words.specs.declared.job.WordsError.TheVariants.{Usage, Memory}
use Rattle.ak_words.specs.Words.{Pair, row_of, behind, IsNumber, IsLimit, Give, AreOptions, Asks, IsJob, HasLimits, IsCommand, IsRefused}
use Rattle.ak_words.specs.Pairs.{pairs_of}
use Rattle.ak_words.proofs.Numbers.{number_one}
use Rattle.ak_words.proofs.Rows.{pairs_row, row_even, row_pairs}

pub limit_one : (name : List ℕ) (least most default : ℕ) (ps : List Pair) (m n : ℕ) → IsLimit name least most default ps m → IsLimit name least most default ps n → m ≡ n
limit_one name least most default ps m n (inl a) (inl b) = a.1 ∙ sym b.1
limit_one name least most default ps m n (inl a) (inr b) = absurd (none_one a.0 b.1)
  where
    none_one : behind name ps ≡ [] → behind name ps ≡ b.0 ∷ [] → ⊥
    none_one e f = cc
limit_one name least most default ps m n (inr a) (inl b) = absurd (none_one b.0 a.1)
  where
    none_one : behind name ps ≡ [] → behind name ps ≡ a.0 ∷ [] → ⊥
    none_one e f = cc
limit_one name least most default ps m n (inr a) (inr b) = number_one b.0 m n (subst (λ (t : List ℕ). IsNumber t m) (same a.1 b.1) a.2) b.2
  where
    same : behind name ps ≡ a.0 ∷ [] → behind name ps ≡ b.0 ∷ [] → a.0 ≡ b.0
    same e f = cc

pub limit_range : (name : List ℕ) (least most default : ℕ) (ps : List Pair) (n : ℕ) → least ≤ default → default ≤ most → IsLimit name least most default ps n → (least ≤ n) × (n ≤ most)
limit_range name least most default ps n low high (inl a) = (omega (arith, a.1), omega (arith, a.1))
limit_range name least most default ps n low high (inr b) = (b.3, b.4)

pub options_even : (ws : List (List ℕ)) (limits : Limits) → AreOptions ws limits → length ws % 2 ≡ 0
options_even ws limits h = subst (λ (vs : List (List ℕ)). length vs % 2 ≡ 0) h.row (row_even h.pairs)

pub options_give : (ws : List (List ℕ)) (limits : Limits) → AreOptions ws limits → Give (pairs_of ws) limits
options_give ws limits h = subst (λ (ps : List Pair). Give ps limits) (sym (pairs_row h.pairs) ∙ ap pairs_of h.row) h.give

pub options_of : (ws : List (List ℕ)) (limits : Limits) → length ws % 2 ≡ 0 → Give (pairs_of ws) limits → AreOptions ws limits
options_of ws limits even give = record { pairs = pairs_of ws; row = row_pairs ws even; give = give }

pub options_limits : (ws : List (List ℕ)) (limits : Limits) → AreOptions ws limits → AreLimits limits
options_limits ws limits h =
    let volumes = limit_range (codes "--volumes") 2 64 4 h.pairs limits.volumes (omega arith) (omega arith) h.give.volumes in
    let blocks = limit_range (codes "--blocks") 16 1048576 4096 h.pairs limits.blocks (omega arith) (omega arith) h.give.blocks in
    let slot = limit_range (codes "--slot") 1 4096 256 h.pairs limits.slot (omega arith) (omega arith) h.give.slot in
    let pool = limit_range (codes "--pool") 1 4096 256 h.pairs limits.pool (omega arith) (omega arith) h.give.pool in
    let every = limit_range (codes "--every") 1 65536 16 h.pairs limits.every (omega arith) (omega arith) h.give.every in
    let scale = limit_range (codes "--scale") 0 9 6 h.pairs limits.scale (omega arith) (omega arith) h.give.scale in
    record {
      volumes_least = volumes.0;
      volumes_most = volumes.1;
      blocks_least = blocks.0;
      blocks_most = blocks.1;
      slot_least = slot.0;
      slot_most = slot.1;
      pool_least = pool.0;
      pool_most = pool.1;
      every_least = every.0;
      every_most = every.1;
      scale_most = scale.1;
    }

limits_same : (a b : Limits) → a.volumes ≡ b.volumes → a.blocks ≡ b.blocks → a.slot ≡ b.slot → a.pool ≡ b.pool → a.every ≡ b.every → a.scale ≡ b.scale → a ≡ b
limits_same a b volumes blocks slot pool every scale =
    ap (λ (x : ℕ). record a { volumes = x }) volumes
    ∙ ap (λ (x : ℕ). record a { volumes = b.volumes; blocks = x }) blocks
    ∙ ap (λ (x : ℕ). record a { volumes = b.volumes; blocks = b.blocks; slot = x }) slot
    ∙ ap (λ (x : ℕ). record a { volumes = b.volumes; blocks = b.blocks; slot = b.slot; pool = x }) pool
    ∙ ap (λ (x : ℕ). record a { volumes = b.volumes; blocks = b.blocks; slot = b.slot; pool = b.pool; every = x }) every
    ∙ ap (λ (x : ℕ). record a { volumes = b.volumes; blocks = b.blocks; slot = b.slot; pool = b.pool; every = b.every; scale = x }) scale

give_one : (ps : List Pair) (a b : Limits) → Give ps a → Give ps b → a ≡ b
give_one ps a b g h =
    let volumes = limit_one (codes "--volumes") 2 64 4 ps a.volumes b.volumes g.volumes h.volumes in
    let blocks = limit_one (codes "--blocks") 16 1048576 4096 ps a.blocks b.blocks g.blocks h.blocks in
    let slot = limit_one (codes "--slot") 1 4096 256 ps a.slot b.slot g.slot h.slot in
    let pool = limit_one (codes "--pool") 1 4096 256 ps a.pool b.pool g.pool h.pool in
    let every = limit_one (codes "--every") 1 65536 16 ps a.every b.every g.every h.every in
    let scale = limit_one (codes "--scale") 0 9 6 ps a.scale b.scale g.scale h.scale in
    limits_same a b volumes blocks slot pool every scale

options_one : (ws : List (List ℕ)) (a b : Limits) → AreOptions ws a → AreOptions ws b → a ≡ b
options_one ws a b g h = give_one (pairs_of ws) a b (options_give ws a g) (options_give ws b h)

asks_one : (ws : List (List ℕ)) (a b : Command) (c d : List ℕ) → Asks ws a c → Asks ws b d → (a ≡ b) × (c ≡ d)
asks_one ws Scratch Scratch c d g h = (refl, g.1 ∙ sym h.1)
asks_one ws Scratch Run c d g h = absurd (let e = g.0 in let f = h in cc)
asks_one ws Scratch (Create l) c d g h = absurd (let e = g.0 in let f = h.1 in cc)
asks_one ws Run Scratch c d g h = absurd (let e = h.0 in let f = g in cc)
asks_one ws Run Run c d g h = (refl, let e = h in let f = g in cc)
asks_one ws Run (Create l) c d g h = absurd (let e = h.1 in let f = g in cc)
asks_one ws (Create k) Scratch c d g h = absurd (let e = h.0 in let f = g.1 in cc)
asks_one ws (Create k) Run c d g h = absurd (let e = h in let f = g.1 in cc)
asks_one ws (Create k) (Create l) c d g h =
    let same : g.0 ≡ h.0 = (let e = h.1 in let f = g.1 in cc) in
    let dirs : c ≡ d = (let e = h.1 in let f = g.1 in cc) in
    (ap Create (options_one h.0 k l (subst (λ (os : List (List ℕ)). AreOptions os k) same g.2) h.2), dirs)

job_same : (a b : Job) → a.command ≡ b.command → a.dir ≡ b.dir → a.files ≡ b.files → a ≡ b
job_same a b command dir files =
    ap (λ (x : Command). record a { command = x }) command
    ∙ ap (λ (x : List ℕ). record a { command = b.command; dir = x }) dir
    ∙ ap (λ (x : List (List ℕ)). record a { command = b.command; dir = b.dir; files = x }) files

pub job_one : (ws : List (List ℕ)) (a b : Job) → IsJob ws a → IsJob ws b → a ≡ b
job_one ws a b g h =
    let both = asks_one ws a.command b.command a.dir b.dir g.asked h.asked in
    job_same a b both.0 both.1 (g.files ∙ sym h.files)

asks_limits : (ws : List (List ℕ)) (a : Command) (c : List ℕ) → Asks ws a c → HasLimits a
asks_limits ws Scratch c h = tt
asks_limits ws Run c h = tt
asks_limits ws (Create limits) c h = options_limits h.0 limits h.2

pub job_limits : (ws : List (List ℕ)) (job : Job) → IsJob ws job → HasLimits job.command
job_limits ws job h = asks_limits ws job.command job.dir h.asked

pub some_is : (P : Type 0) (Q : ℕ → Type 0) (r : Option ℕ) → is_some r ≡ true → MatchOption r P Q → (k : ℕ) × Q k
some_is P Q (Some k) e h = (k, h)
some_is P Q None e h = absurd (cc)

pub none_is : (P : Type 0) (Q : ℕ → Type 0) (r : Option ℕ) → is_some r ≡ false → MatchOption r P Q → P
none_is P Q (Some k) e h = absurd (cc)
none_is P Q None e h = h

pub limit_twice : (name : List ℕ) (least most default : ℕ) (ps : List Pair) (n : ℕ) (t u : List ℕ) (rest : List (List ℕ)) → behind name ps ≡ t ∷ u ∷ rest → IsLimit name least most default ps n → ⊥
limit_twice name least most default ps n t u rest e (inl a) = let f = a.0 in cc
limit_twice name least most default ps n t u rest e (inr b) = let f = b.1 in cc

pub limit_bad : (name : List ℕ) (least most default : ℕ) (ps : List Pair) (n : ℕ) (t : List ℕ) → behind name ps ≡ t ∷ [] → ((m : ℕ) → IsNumber t m → ⊥) → IsLimit name least most default ps n → ⊥
limit_bad name least most default ps n t e bad (inl a) = let f = a.0 in cc
limit_bad name least most default ps n t e bad (inr b) =
    let same : b.0 ≡ t = (let f = b.1 in cc) in
    bad n (subst (λ (u : List ℕ). IsNumber u n) same b.2)

pub words_two : {X : Type 0} (f : X → List ℕ) (xs ys : List X) (x y : X) → 2 ≤ length xs → ys ≡ drop 2 xs → x ≡ get_or xs 0 x → y ≡ get_or xs 1 y → map f xs ≡ f x ∷ f y ∷ map f ys
words_two f [] ys x y h tail e g = absurd (omega (arith, h))
words_two f (a ∷ []) ys x y h tail e g = absurd (omega (arith, h))
words_two f (a ∷ b ∷ rest) ys x y h tail e g =
    ap (λ z. f z ∷ f b ∷ map f rest) (sym e) ∙ ap (λ z. f x ∷ f z ∷ map f rest) (sym g) ∙ ap (λ zs. f x ∷ f y ∷ map f zs) (sym tail)

pub job_create : (ws : List (List ℕ)) (dir : List ℕ) (rest : List (List ℕ)) (limits : Limits) → ws ≡ codes "create" ∷ dir ∷ rest → AreOptions rest limits → (r : Result Job WordsError) → IfOk r (λ job. job.command ≡ Create limits) → IfOk r (λ job. job.dir ≡ dir) → IfOk r (λ job. job.files ≡ []) → IfOk r (λ job. IsJob ws job)
job_create ws dir rest limits words options (Ok job) command same files = record {
  asked = subst (λ (k : Command). Asks ws k job.dir) (sym command) (rest, words ∙ ap (λ (d : List ℕ). codes "create" ∷ d ∷ rest) (sym same), options);
  files = files;
}
job_create ws dir rest limits words options (Err e) command same files = tt

pub job_run : (ws : List (List ℕ)) (dir : List ℕ) → ws ≡ codes "run" ∷ dir ∷ [] → (r : Result Job WordsError) → IfOk r (λ job. job.command ≡ Run) → IfOk r (λ job. job.dir ≡ dir) → IfOk r (λ job. job.files ≡ []) → IfOk r (λ job. IsJob ws job)
job_run ws dir words (Ok job) command same files = record {
  asked = subst (λ (k : Command). Asks ws k job.dir) (sym command) (words ∙ ap (λ (d : List ℕ). codes "run" ∷ d ∷ []) (sym same));
  files = files;
}
job_run ws dir words (Err e) command same files = tt

pub job_has : (ws : List (List ℕ)) (r : Result Job WordsError) → IfOk r (λ job. IsJob ws job) → IfOk r (λ job. HasLimits job.command)
job_has ws (Ok job) h = job_limits ws job h
job_has ws (Err e) h = tt

pub job_refused : (ws : List (List ℕ)) (r : Result Job WordsError) → IfErr r (λ e. e ≡ Memory) → IsRefused ws r
job_refused ws (Ok job) h = tt
job_refused ws (Err Usage) h = absurd (cc)
job_refused ws (Err Memory) h = tt

ask_create : (ws : List (List ℕ)) (dir : List ℕ) (rest : List (List ℕ)) → ws ≡ codes "create" ∷ dir ∷ rest → ((l : Limits) → AreOptions rest l → ⊥) → (k : Command) (d : List ℕ) → Asks ws k d → ⊥
ask_create ws dir rest e none Scratch d h = let g = h.0 in cc
ask_create ws dir rest e none Run d h = cc
ask_create ws dir rest e none (Create l) d h =
    let same : h.0 ≡ rest = (let g = h.1 in cc) in
    none l (subst (λ (os : List (List ℕ)). AreOptions os l) same h.2)

pub none_create : (ws : List (List ℕ)) (dir : List ℕ) (rest : List (List ℕ)) → ws ≡ codes "create" ∷ dir ∷ rest → ((l : Limits) → AreOptions rest l → ⊥) → IsCommand ws → ⊥
none_create ws dir rest e none h = ask_create ws dir rest e none h.0.command h.0.dir h.1.asked

ask_other : (ws : List (List ℕ)) (name dir : List ℕ) (rest : List (List ℕ)) → ws ≡ name ∷ dir ∷ rest → (name ≡ codes "create" → ⊥) → (name ≡ codes "run" → rest ≡ [] → ⊥) → (k : Command) (d : List ℕ) → Asks ws k d → ⊥
ask_other ws name dir rest e other long Scratch d h = let g = h.0 in cc
ask_other ws name dir rest e other long Run d h = long (cc) (cc)
ask_other ws name dir rest e other long (Create l) d h = other (let g = h.1 in cc)

pub none_other : (ws : List (List ℕ)) (name dir : List ℕ) (rest : List (List ℕ)) → ws ≡ name ∷ dir ∷ rest → (name ≡ codes "create" → ⊥) → (name ≡ codes "run" → rest ≡ [] → ⊥) → IsCommand ws → ⊥
none_other ws name dir rest e other long h = ask_other ws name dir rest e other long h.0.command h.0.dir h.1.asked
