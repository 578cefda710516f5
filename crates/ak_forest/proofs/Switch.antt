-- A switch keeps a sound image sound.
use Rattle.std.proofs.Common.{◌≡◌, ℕ, suc, pred, ◌+◌, ◌-◌, ◌*◌, ◌/◌, ◌%◌, ◌^◌, ◌<◌, ◌≤◌, ◌&&◌, nat_le, nat_lt, Bool, true, false, true≢false, is_none, if◌then◌else◌, List, [], ◌∷◌, ◌++◌, length, map, get_or, Some, None, refl, sym, ◌∙◌, ap, ap₂, subst, arith}
use Rattle.std.proofs.lemmas.Bool.Decides.{nat_tests}
use Rattle.ak_forest.specs.Numbers.{made, end, span, carry}
use Rattle.ak_forest.specs.Tree.{Seen, Node, spot, width, reads_of}
use Rattle.ak_summary.specs.declared.summary.Summary.{Summary}
use Rattle.ak_forest.specs.Image.{Volumes, live, seen_of, row, scan_from, scan_of, Holds, IsWhole, IsSeries, IsSound}
use Rattle.ak_forest.specs.Forest.{Kept, IsPlanted}
use Rattle.ak_forest.proofs.Arith.{times_one}
use Rattle.ak_forest.proofs.Place.{in_group, end_pos}
use Rattle.ak_forest.proofs.Raise.{tree_raised, grown_raised}
use Rattle.ak_forest.proofs.Scans.{Each, each_at, split_span, row_within, scan_above, scan_same, scan_empty, fill_empty}

-- where something is seen, the address is live
pub seen_live : (v : Volumes) (spells : Seen) (at : ℕ) (node : Node) → seen_of v spells at ≡ Some node → live v at ≡ true
seen_live v spells at node = go (live v at)
  where
    go : (b : Bool) → (if b then spells at else None) ≡ Some node → b ≡ true
    go true e = refl
    go false e = absurd (true≢false (ap is_none e))

pub live_above : (v : Volumes) (at : ℕ) → live v at ≡ true → v.lo * width ≤ at
live_above v at h = let o : v.lo ≤ at / width = grind (arith, nat_tests, h) in omega (arith, o)

module _ (lo fill : ℕ) (fills : List ℕ) (spells : Seen) where
  abbrev pub old : Volumes
  old = record { lo = lo; fills = fill ∷ fills }

  abbrev pub new : Volumes
  new = record { lo = suc lo; fills = fills ++ 0 ∷ [] }

  live_same : (at : ℕ) → suc lo * width ≤ at → live new at ≡ live old at
  live_same at h =
      let o : suc lo ≤ at / width = omega (arith, h) in
      let i = at / width - suc lo in
      let next : at / width - lo ≡ suc i = omega (arith, o) in
      let one : nat_le (suc lo) (at / width) ≡ true = grind (arith, nat_tests, o) in
      let two : nat_le lo (at / width) ≡ true = grind (arith, nat_tests, o) in
      let filled : get_or (fills ++ 0 ∷ []) i 0 ≡ get_or (fill ∷ fills) (at / width - lo) 0 = fill_empty fills i ∙ sym (ap (λ (x : ℕ). get_or (fill ∷ fills) x 0) next) in
      ap₂ (λ (a b : Bool). a && b) (one ∙ sym two) (ap (λ (x : ℕ). nat_lt (at % width) x) filled)

  pub seen_same : (at : ℕ) → suc lo * width ≤ at → seen_of new spells at ≡ seen_of old spells at
  seen_same at h = ap (λ (b : Bool). if b then spells at else None) (live_same at h)

  seen_above : (at : ℕ) (node : Node) → seen_of new spells at ≡ Some node → suc lo * width ≤ at
  seen_above at node e = live_above new at (seen_live new spells at node e)

  new_scan : (series : ℕ) → scan_of new (seen_of new spells) series ≡ scan_from (seen_of old spells) series (suc lo) fills
  new_scan series = scan_empty (seen_of new spells) series (suc lo) fills ∙ scan_same (seen_of new spells) (seen_of old spells) (suc lo * width) seen_same series (suc lo) fills (omega arith)

  -- the leaves that die stand in the ordinal that is given up, and so do the nodes behind them
  gone : (fan series leaves : ℕ) (total : ℕ → ℕ → Summary) (rescue : ℕ → ℕ) → 1 < fan → leaves < fan ^ 11 → fill < width → IsWhole fan (seen_of old spells)
      → (s : IsSeries fan old (seen_of old spells) series leaves total rescue)
      → Each (λ x. (lo * width ≤ x) × (x < lo * width + fill)) (map s.home (span s.low (length (row (seen_of old spells) series (lo * width) fill))))
      → (k j : ℕ) → s.low < end fan k j → end fan k j ≤ s.low + length (row (seen_of old spells) series (lo * width) fill)
      → s.low + length (row (seen_of old spells) series (lo * width) fill) ≤ leaves → spot fan s.home k j < suc lo * width
  gone fan series leaves total rescue two few small whole s early k j l e fits =
      let i = pred (end fan k j) in
      let stop : end fan k j ≡ suc i = omega (arith, end_pos fan k j (omega arith)) in
      let one : end fan 0 i ≡ suc i = times_one fan (suc i) in
      let leaf = s.tree.nodes 0 i (omega (arith, l, stop, one)) (omega (arith, e, stop, one, fits)) in
      let place : s.home i ≡ spot fan s.home 0 i = (let z : s.home i ≡ s.home i + 0 = omega arith in z) ∙ ap (λ (x : ℕ). s.home (pred x) + 0) (sym one) in
      let read : seen_of old spells (s.home i) ≡ Some leaf.node = ap (seen_of old spells) place ∙ leaf.read in
      let within : k ≤ carry fan leaf.node.number = subst (λ (x : ℕ). k ≤ carry fan x) (sym leaf.numbered) (in_group fan i k j (omega arith) (omega (arith, e, stop, fits, few)) stop).0 in
      let room : s.home i % width + k < width = (whole.behind (s.home i) leaf.node read leaf.of_level k within).0 in
      let at = each_at (λ x. (lo * width ≤ x) × (x < lo * width + fill)) s.home (length (row (seen_of old spells) series (lo * width) fill)) s.low i early (omega (arith, l, stop)) (omega (arith, e, stop)) in
      omega (arith, room, at.0, at.1, small)

  pub series_switched : (fan series leaves : ℕ) (total : ℕ → ℕ → Summary) (rescue : ℕ → ℕ) → 1 < fan → leaves < fan ^ 11 → fill < width → IsWhole fan (seen_of old spells)
      → IsSeries fan old (seen_of old spells) series leaves total rescue → IsSeries fan new (seen_of new spells) series leaves total rescue
  series_switched fan series leaves total rescue two few small whole s =
      let seen = seen_of old spells in
      let died = row seen series (lo * width) fill in
      let rest = scan_from seen series (suc lo) fills in
      let split = split_span s.home s.low (leaves - s.low) died rest s.scanned in
      let last = s.low + length died in
      let left : leaves - last ≡ length rest = omega (arith, split.count) in
      let early : Each (λ x. (lo * width ≤ x) × (x < lo * width + fill)) (map s.home (span s.low (length died))) =
      subst (λ (l : List ℕ). Each (λ x. (lo * width ≤ x) × (x < lo * width + fill)) l) (sym split.first) (row_within seen series (lo * width) fill) in
      let late : Each (λ x. suc lo * width ≤ x) (map s.home (span last (length rest))) =
      subst (λ (l : List ℕ). Each (λ x. suc lo * width ≤ x) l) (sym split.second) (scan_above seen series (suc lo) fills) in
      record {
        low = last;
        home = s.home;
        scanned = new_scan series ∙ sym (ap (λ (x : ℕ). map s.home (span last x)) left ∙ split.second);
        tree = tree_raised fan lo (suc lo) s.low last leaves s.home total (omega arith) (omega arith) (omega arith)
            (λ k j l e. gone fan series leaves total rescue two few small whole s early k j l e (omega (arith, split.count, s.tree.fits)))
            series rescue (reads_of seen) (reads_of (seen_of new spells)) (omega (arith, split.count, s.tree.fits)) (λ at node from read. seen_same at from ∙ read)
            (λ k j l e.
            let here : suc lo * width ≤ s.home (pred (end fan k j)) =
            each_at (λ x. suc lo * width ≤ x) s.home (length rest) last (pred (end fan k j)) late (omega (arith, l, end_pos fan k j (omega arith))) (omega (arith, e, split.count, s.tree.fits, end_pos fan k j (omega arith))) in
            omega (arith, here))
            s.tree;
      }

  pub planted_switched : (fan series : ℕ) (k : Kept) → 1 < fan → fill < width → IsWhole fan (seen_of old spells)
      → IsPlanted fan old (seen_of old spells) series k → IsPlanted fan new (seen_of new spells) series k
  planted_switched fan series kept two small whole p =
      let leaves = kept.leaves in
      let total = kept.total in
      let rescue = kept.rescue in
      let few = p.few in
      let s : IsSeries fan old (seen_of old spells) series leaves total rescue = record { low = p.low; home = p.home; scanned = p.scanned; tree = p.grown.tree } in
      let seen = seen_of old spells in
      let died = row seen series (lo * width) fill in
      let rest = scan_from seen series (suc lo) fills in
      let split = split_span s.home s.low (leaves - s.low) died rest s.scanned in
      let last = s.low + length died in
      let left : leaves - last ≡ length rest = omega (arith, split.count) in
      let early : Each (λ x. (lo * width ≤ x) × (x < lo * width + fill)) (map s.home (span s.low (length died))) =
      subst (λ (l : List ℕ). Each (λ x. (lo * width ≤ x) × (x < lo * width + fill)) l) (sym split.first) (row_within seen series (lo * width) fill) in
      let late : Each (λ x. suc lo * width ≤ x) (map s.home (span last (length rest))) =
      subst (λ (l : List ℕ). Each (λ x. suc lo * width ≤ x) l) (sym split.second) (scan_above seen series (suc lo) fills) in
      record {
        few = p.few;
        low = last;
        home = s.home;
        scanned = new_scan series ∙ sym (ap (λ (x : ℕ). map s.home (span last x)) left ∙ split.second);
        grown = grown_raised fan lo (suc lo) s.low last leaves s.home total (omega arith) (omega arith) (omega arith)
            (λ k j l e. gone fan series leaves total rescue two few small whole s early k j l e (omega (arith, split.count, s.tree.fits)))
            series rescue (reads_of seen) (reads_of (seen_of new spells)) kept.base kept.waiting (omega (arith, split.count, s.tree.fits)) (λ at node from read. seen_same at from ∙ read)
            (λ k j l e.
            let here : suc lo * width ≤ s.home (pred (end fan k j)) =
            each_at (λ x. suc lo * width ≤ x) s.home (length rest) last (pred (end fan k j)) late (omega (arith, l, end_pos fan k j (omega arith))) (omega (arith, e, split.count, s.tree.fits, end_pos fan k j (omega arith))) in
            omega (arith, here))
            p.grown;
      }

  pub whole_switched : (fan : ℕ) → IsWhole fan (seen_of old spells) → IsWhole fan (seen_of new spells)
  whole_switched fan whole = record {
    behind = λ at node e leaf k h.
        let from = seen_above at node e in
        let was = whole.behind at node (sym (seen_same at from) ∙ e) leaf k h in
        (was.0, holds (at + k) node.series k (made fan k node.number) (omega (arith, from)) was.1);
    before = λ at node e.
        let from = seen_above at node e in
        let was = whole.before at node (sym (seen_same at from) ∙ e) in
        (was.0, (was.1.0, holds (at - node.level) node.series 0 was.1.0 (omega (arith, from, was.0)) was.1.1, was.1.2));
  }
    where
      holds : (at series level number : ℕ) → suc lo * width ≤ at → Holds (seen_of old spells) at series level number → Holds (seen_of new spells) at series level number
      holds at series level number from h = record { node = h.node; read = seen_same at from ∙ h.read; of_series = h.of_series; of_level = h.of_level; numbered = h.numbered }

  -- the least ordinal is given up
  pub sound_switched : (fan count : ℕ) (leaves : ℕ → ℕ) (rescue : ℕ → ℕ → ℕ) (total : ℕ → ℕ → ℕ → Summary) → 1 < fan → ((series : ℕ) → series < count → leaves series < fan ^ 11)
      → IsSound fan count leaves rescue total old (seen_of old spells) → IsSound fan count leaves rescue total new (seen_of new spells)
  sound_switched fan count leaves rescue total two few sound = record {
    small = λ i. subst (λ (x : ℕ). x < width) (sym (fill_empty fills i)) (sound.small (suc i));
    spelled = λ at is.
        let from = live_above new at is in
        let was = sound.spelled at (sym (live_same at from) ∙ is) in
        (was.0, seen_same at from ∙ was.1, was.2);
    whole = whole_switched fan sound.whole;
    each = λ series h. series_switched fan series (leaves series) (total series) (rescue series) two (few series h) (sound.small 0) sound.whole (sound.each series h);
  }

-- a switch that gives up no ordinal
module _ (lo : ℕ) (fills : List ℕ) (spells : Seen) where
  abbrev pub narrow : Volumes
  narrow = record { lo = lo; fills = fills }

  abbrev pub wide : Volumes
  wide = record { lo = lo; fills = fills ++ 0 ∷ [] }

  pub wide_same : seen_of wide spells ≡ seen_of narrow spells
  wide_same = λ i at. (if (nat_le lo (at / width) && nat_lt (at % width) (fill_empty fills (at / width - lo) i)) then spells at else None)

  pub sound_widened : (fan count : ℕ) (leaves : ℕ → ℕ) (rescue : ℕ → ℕ → ℕ) (total : ℕ → ℕ → ℕ → Summary)
      → IsSound fan count leaves rescue total narrow (seen_of narrow spells) → IsSound fan count leaves rescue total wide (seen_of wide spells)
  sound_widened fan count leaves rescue total sound = subst (λ (s : Seen). IsSound fan count leaves rescue total wide s) (sym wide_same) record {
    small = λ i. subst (λ (x : ℕ). x < width) (sym (fill_empty fills i)) (sound.small i);
    spelled = λ at is. sound.spelled at (subst (λ (x : ℕ). (nat_le lo (at / width) && nat_lt (at % width) x) ≡ true) (fill_empty fills (at / width - lo)) is);
    whole = sound.whole;
    each = λ series h. let s = sound.each series h in record {
      low = s.low;
      home = s.home;
      scanned = scan_empty (seen_of narrow spells) series lo fills ∙ s.scanned;
      tree = s.tree;
    };
  }
