-- Rows that are dropped, and rows that are kept.
use Rattle.std.proofs.Common.{◌≡◌, ◌≢◌, ℕ, zero, suc, ◌-◌, ◌<◌, Bool, true, false, List, [], ◌∷◌, drop, Option, Some, None, refl, ap, ap₂, subst, true≢false, ◌∙◌, sym, arith}
use Rattle.ak_rows.specs.Answers.{paged, at_most}
use Rattle.ak_rows.specs.Coming.{IsTaken}
use Rattle.ak_rows.specs.Lines.{Line}
use Rattle.ak_rows.specs.Pages.{IsDropped, is_none_kept, kept}
use Rattle.ak_rows.specs.declared.row.Row.{Row}

drop_nothing : (n : ℕ) → drop {A = Line} n [] ≡ []
drop_nothing zero = refl
drop_nothing (suc n) = refl

-- a row more is dropped
pub dropped_more : (n : ℕ) (taken : Bool) (row : Row) (before now : List Line) → 0 < n → taken ≡ true → IsTaken taken row before now → drop n before ≡ drop (n - 1) now
dropped_more zero taken row before now some is one = absurd (omega arith)
dropped_more (suc n) taken row before now some is one =
    let next : IsTaken true row before now = subst (λ (b : Bool). IsTaken b row before now) is one in
    ap (drop (suc n)) next.2 ∙ ap (λ (k : ℕ). drop k now) (omega arith)

-- there are no more
pub dropped_all : (skip n left : ℕ) (taken : Bool) (row : Row) (all before now : List Line) → drop skip all ≡ drop n before → taken ≡ false → IsTaken taken row before now → IsDropped false skip left all now
dropped_all skip n left taken row all before now so_far is one =
    let none : IsTaken false row before now = subst (λ (b : Bool). IsTaken b row before now) is one in
    (so_far ∙ ap (drop n) none.0 ∙ drop_nothing n, none.1)

-- ---- The page

none_at_most : (keep : Option ℕ) → at_most {A = Line} keep [] ≡ []
none_at_most None = refl
none_at_most (Some zero) = refl
none_at_most (Some (suc n)) = refl

no_page : (skip : ℕ) (keep : Option ℕ) (ls : List Line) → drop skip ls ≡ [] → paged skip keep ls ≡ []
no_page skip keep ls none = ap (at_most keep) none ∙ none_at_most keep

pub page_ended : (all : Bool) (row : Row) (skip left : ℕ) (keep : Option ℕ) (before now : List Line) → all ≡ false → IsDropped all skip left before now → IsTaken false row (paged skip keep before) (paged left keep now)
page_ended all row skip left keep before now is one =
    let none : IsDropped false skip left before now = subst (λ (b : Bool). IsDropped b skip left before now) is one in
    (no_page skip keep before none.0, no_page left keep now (ap (drop left) none.1 ∙ drop_nothing left))

pub page_none : (all got : Bool) (row : Row) (skip left : ℕ) (keep : Option ℕ) (before between now : List Line) → all ≡ true → IsDropped all skip left before between → got ≡ false → IsTaken got row between now
    → IsTaken got row (paged skip keep before) (paged left keep now)
page_none all got row skip left keep before between now is one has_not two =
    let dropped : IsDropped true skip left before between = subst (λ (b : Bool). IsDropped b skip left before between) is one in
    let none : IsTaken false row between now = subst (λ (b : Bool). IsTaken b row between now) has_not two in
    subst (λ (b : Bool). IsTaken b row (paged skip keep before) (paged left keep now)) (sym has_not)
    (no_page skip keep before (dropped.1 ∙ none.0), no_page left keep now (ap (drop left) none.1 ∙ drop_nothing left))

first_kept : (keep : Option ℕ) (l : Line) (now : List Line) → is_none_kept keep ≡ false → at_most keep (l ∷ now) ≡ l ∷ at_most (kept keep) now
first_kept None l now some = refl
first_kept (Some zero) l now some = absurd (true≢false some)
first_kept (Some (suc n)) l now some = ap (λ (k : ℕ). l ∷ at_most (Some k) now) (omega arith)

pub page_next : (all got : Bool) (row : Row) (skip left last : ℕ) (keep remain : Option ℕ) (before between now : List Line) → all ≡ true → IsDropped all skip left before between → got ≡ true → IsTaken got row between now
    → is_none_kept keep ≡ false → last ≡ left → remain ≡ kept keep → IsTaken got row (paged skip keep before) (paged last remain now)
page_next all got row skip left last keep remain before between now is one has two some same fewer =
    let dropped : IsDropped true skip left before between = subst (λ (b : Bool). IsDropped b skip left before between) is one in
    let next : IsTaken true row between now = subst (λ (b : Bool). IsTaken b row between now) has two in
    let first : paged skip keep before ≡ next.0 ∷ paged 0 (kept keep) now = ap (at_most keep) (dropped.1 ∙ next.2) ∙ first_kept keep next.0 now some in
    let rest : paged 0 (kept keep) now ≡ paged last remain now = sym (ap₂ (λ (k : ℕ) (r : Option ℕ). paged k r now) (same ∙ dropped.0) fewer) in
    subst (λ (b : Bool). IsTaken b row (paged skip keep before) (paged last remain now)) (sym has) (next.0, next.1, first ∙ ap (λ (ls : List Line). next.0 ∷ ls) rest)
