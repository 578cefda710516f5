-- The two readings, the counts of reads, and an older record.
use Rattle.std.proofs.Common.{◌≡◌, inl, inr, ℕ, zero, suc, ◌-◌, ◌/◌, ◌≤◌, true, List, [], ◌∷◌, ◌++◌, length, get_or, Some, None, Option, refl, sym, ◌∙◌, ap, arith, length-append, mod-lt}
use Rattle.std.proofs.lemmas.Bool.{cases_eq}
use Rattle.ak_forest.specs.Numbers.{made, digit}
use Rattle.ak_forest.specs.Tree.{Seen, Node, follow, width}
use Rattle.ak_forest.specs.Image.{live}
use Rattle.ak_forest.specs.Laws.{FewReads, OlderKept}
use Rattle.ak_forest.specs.Written.{SameSaid}
use Rattle.ak_forest.proofs.Pending.{follow_none, follow_some}
use Rattle.ak_forest.proofs.Agree.{agreement}
use Rattle.ak_forest.proofs.Group.{fill_last, fill_other, live_parts, parts_live}
use Rattle.ak_forest.proofs.Written.{series_of, written_of}

pub same_said : SameSaid
same_said fan v seen series leaves total rescue two few only whole = (series_of fan v seen series leaves total rescue two few only whole, written_of fan v seen series leaves total rescue two few only whole)

follow_step : (seen : Seen) (n at : ℕ) (o : Option Node) → seen at ≡ o → ((elder : ℕ) → length (follow seen n elder) ≤ n) → length (follow seen (suc n) at) ≤ suc n
follow_step seen n at None e ih = omega (arith, ap (λ (l : List ℕ). length l) (follow_none seen n at e))
follow_step seen n at (Some node) e ih = omega (arith, ap (λ (l : List ℕ). length l) (follow_some seen n at node e), length-append (follow seen n node.elder) (at ∷ []), ih node.elder)

follow_few : (seen : Seen) (n at : ℕ) → length (follow seen n at) ≤ n
follow_few seen zero at = omega arith
follow_few seen (suc n) at = follow_step seen n at (seen at) refl (λ elder. follow_few seen n elder)

pub few_reads : FewReads
few_reads fan seen leaves rescue k two = (follow_few seen (digit fan k leaves) (rescue k), mod-lt (made fan k leaves) (omega arith))

pub older_kept : OlderKept
older_kept fan count leaves rescue total lo older n c front spells spells' nodes less wrote sound =
    agreement fan count leaves rescue total record { lo = lo; fills = front ++ older ∷ [] } spells spells' (λ at is. sym (wrote.agrees at (grows at is))) sound
  where
    grows : (at : ℕ) → live record { lo = lo; fills = front ++ older ∷ [] } at ≡ true → live record { lo = lo; fills = front ++ n ∷ [] } at ≡ true
    grows at is =
        let p = live_parts record { lo = lo; fills = front ++ older ∷ [] } at is in
        parts_live record { lo = lo; fills = front ++ n ∷ [] } at record {
          ordinal = p.ordinal;
          index = elim (cases_eq (at / width - lo) (length front)) [
            | inl last ↦
                let f : get_or (front ++ older ∷ []) (at / width - lo) 0 ≡ older = ap (λ (i : ℕ). get_or (front ++ older ∷ []) i 0) last ∙ fill_last front older in
                let g : get_or (front ++ n ∷ []) (at / width - lo) 0 ≡ n = ap (λ (i : ℕ). get_or (front ++ n ∷ []) i 0) last ∙ fill_last front n in
                omega (arith, p.index, f, g, less)
            | inr other ↦ omega (arith, p.index, fill_other front older n (at / width - lo) other)
          ];
        }
