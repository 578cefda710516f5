-- The law of agreement: what isn't live doesn't count.
use Rattle.std.proofs.Common.{◌≡◌, ℕ, refl, ap, subst, Bool, true, false, Option, None, if◌then◌else◌}
use Rattle.ak_forest.specs.Tree.{Seen, Node}
use Rattle.ak_summary.specs.declared.summary.Summary.{Summary}
use Rattle.ak_forest.specs.Image.{Volumes, live, seen_of, scan_of, IsSound}

guarded : (b : Bool) (x y : Option Node) → (b ≡ true → x ≡ y) → (if b then x else None) ≡ (if b then y else None)
guarded true x y same = same refl
guarded false x y same = refl

pub seen_same : (v : Volumes) (one two : Seen) → ((at : ℕ) → live v at ≡ true → one at ≡ two at) → seen_of v one ≡ seen_of v two
seen_same v one two same = λ i at. guarded (live v at) (one at) (two at) (same at) i

pub agreement : (fan count : ℕ) (leaves : ℕ → ℕ) (rescue : ℕ → ℕ → ℕ) (total : ℕ → ℕ → ℕ → Summary) (v : Volumes) (one two : Seen)
    → ((at : ℕ) → live v at ≡ true → one at ≡ two at)
    → IsSound fan count leaves rescue total v (seen_of v one) → IsSound fan count leaves rescue total v (seen_of v two)
agreement fan count leaves rescue total v one two same sound = subst (λ (s : Seen). IsSound fan count leaves rescue total v s) (seen_same v one two same) sound

pub same_scan : (v : Volumes) (one two : Seen) (series : ℕ) → ((at : ℕ) → live v at ≡ true → one at ≡ two at)
    → scan_of v (seen_of v one) series ≡ scan_of v (seen_of v two) series
same_scan v one two series same = ap (λ (s : Seen). scan_of v s series) (seen_same v one two same)
