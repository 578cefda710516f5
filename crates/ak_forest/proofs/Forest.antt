-- The invariant of the forest is kept.
use Rattle.std.proofs.Common.{◌&&◌, nat_le, nat_lt, ◌≡◌, ◌≢◌, inl, inr, ℕ, zero, suc, ◌+◌, ◌-◌, ◌*◌, ◌/◌, ◌%◌, ◌^◌, ◌<◌, ◌≤◌, ◌==◌, Bool, true, false, if◌then◌else◌, List, [], ◌∷◌, ◌++◌, length, map, get_or, Some, None, Option, refl, sym, ◌∙◌, ap, ap₂, subst, subst₂, arith, append-nil, zero-mul}
use Rattle.std.proofs.lemmas.Bool.{cases_eq}
use Rattle.std.proofs.lemmas.Bool.Decides.{nat_tests}
use Rattle.std.proofs.lemmas.List.{map-append}
use Rattle.ak_forest.specs.Numbers.{made, between, carry}
use Rattle.ak_forest.specs.Tree.{Elder, found_in, Seen, Node, Reference, IsGrown, IsClose, Takes, Waits, pending, found, width, reads_of}
use Rattle.ak_summary.specs.declared.summary.Summary.{Summary}
use Rattle.ak_forest.specs.Image.{Volumes, live, seen_of, leaf_here, row, scan_from, scan_of}
use Rattle.ak_forest.specs.Forest.{Kept, IsPlanted, IsForest, Closed, Turned, Opened, Stands, Widened, Born, Added, IsEmpty, takes, part, Computed}
use Rattle.ak_forest.proofs.Arith.{made_none, fan_pos, between_append, between_one}
use Rattle.ak_forest.proofs.Place.{grown_placed, end_pos}
use Rattle.ak_forest.proofs.Open.{opened, grown_kept}
use Rattle.ak_forest.proofs.Switch.{seen_live, sound_switched, planted_switched, wide_same}
use Rattle.ak_forest.proofs.Scans.{scan_empty, fill_empty}
use Rattle.ak_forest.proofs.Group.{same_node, live_parts, whole_placed, spelled_placed, scan_placed, map_same, same_test, other_test, keeps, written}
use Rattle.ak_forest.proofs.Laws.{off_right, blind, front_le, small_placed}

pub stands : Stands
stands fan count kept v seen forest = record {
  small = forest.small;
  spelled = forest.spelled;
  whole = forest.whole;
  each = λ s h. let p = forest.each s h in record { low = p.low; home = p.home; scanned = p.scanned; tree = p.grown.tree };
}

abbrev home_after : (ℕ → ℕ) → ℕ → ℕ → ℕ → ℕ
home_after home m at i = if i == m then at else home i

home_here : (home : ℕ → ℕ) (m at : ℕ) → home_after home m at m ≡ at
home_here home m at = ap (λ (b : Bool). if b then at else home m) (same_test m)

home_before : (home : ℕ → ℕ) (m at i : ℕ) → i < m → home_after home m at i ≡ home i
home_before home m at i h = ap (λ (b : Bool). if b then at else home i) (other_test i m (λ is. omega (arith, is, h)))

pub closed : Closed
closed fan count series value join kept kept' lo n front spells spells' fresh nodes two known few wrote step others forest =
    let m = (kept series).leaves in
    let c = carry fan m in
    let at = (lo + length front) * width + n in
    let v : Volumes = record { lo = lo; fills = front ++ n ∷ [] } in
    let w : Volumes = record { lo = lo; fills = front ++ (n + suc c) ∷ [] } in
    let parts : (k : ℕ) → k ≤ c → ((nodes k).series ≡ series) × ((nodes k).level ≡ k) × ((nodes k).number ≡ made fan k m) =
    λ k h. ((step.parts k h).of_series, (step.parts k h).of_level, (step.parts k h).numbered) in
    let small : (i : ℕ) → get_or front i 0 ≤ width = λ i. omega (arith, front_le front n i, forest.small i) in
    record {
      small = small_placed front n (n + suc c) wrote.room forest.small;
      spelled = spelled_placed lo n c front spells spells' nodes wrote.room wrote.agrees wrote.wrote fan series m refl parts count known forest.spelled;
      whole = whole_placed lo n c front spells spells' nodes wrote.room wrote.agrees wrote.wrote fan series m refl parts (omega arith) forest.whole;
      each = λ s h. elim (cases_eq series s) [
        | inl is ↦ subst (λ (x : ℕ). IsPlanted fan w (seen_of w spells') x (kept' x)) is (own (forest.each series known) parts small)
        | inr differs ↦ subst (λ (k : Kept). IsPlanted fan w (seen_of w spells') s k) (others s differs) (beside s differs parts small (forest.each s h))
      ];
    }
  where
    own : IsPlanted fan record { lo = lo; fills = front ++ n ∷ [] } (seen_of record { lo = lo; fills = front ++ n ∷ [] } spells) series (kept series)
        → ((k : ℕ) → k ≤ carry fan (kept series).leaves → ((nodes k).series ≡ series) × ((nodes k).level ≡ k) × ((nodes k).number ≡ made fan k (kept series).leaves))
        → ((i : ℕ) → get_or front i 0 ≤ width)
        → IsPlanted fan record { lo = lo; fills = front ++ (n + suc (carry fan (kept series).leaves)) ∷ [] }
        (seen_of record { lo = lo; fills = front ++ (n + suc (carry fan (kept series).leaves)) ∷ [] } spells') series (kept' series)
    own p parts small =
        let m = (kept series).leaves in
        let c = carry fan m in
        let at = (lo + length front) * width + n in
        let w : Volumes = record { lo = lo; fills = front ++ (n + suc c) ∷ [] } in
        let seen = seen_of record { lo = lo; fills = front ++ n ∷ [] } spells in
        let later = seen_of w spells' in
        let home' : ℕ → ℕ = home_after p.home m at in
        let fits : p.low + (m - p.low) ≤ m = omega (arith, p.grown.tree.fits) in
        let close : IsClose fan series m at value p.low join p.home home' (kept series).rescue (kept' series).rescue (kept series).total (kept' series).total (reads_of seen) (reads_of later) (kept series).waiting (kept' series).waiting fresh nodes = record {
          here = home_here p.home m at;
          same = home_before p.home m at;
          worth = step.worth;
          same_total = step.same_total;
          adds = λ i j k from. step.adds i j k (omega (arith, p.grown.older, from));
          ends = step.ends;
          keeps = keeps lo n c front spells spells' nodes wrote.room wrote.agrees wrote.wrote;
          written = written lo n c front spells spells' nodes wrote.room wrote.agrees wrote.wrote;
          parts = step.parts;
          new_points = step.new_points;
          old_points = step.old_points;
          emptied = step.emptied;
          grown = step.pushed;
          old_levels = step.old_levels;
        } in
        let after = grown_placed fan lo series p.low m at value (kept series).base join p.home home' (kept series).rescue (kept' series).rescue (kept series).total (kept' series).total (reads_of seen) (reads_of later)
        (kept series).waiting (kept' series).waiting fresh nodes two (subst (λ (x : ℕ). x < fan ^ 11) step.one_more few) p.grown close in
        record {
          few = few;
          low = p.low;
          home = home';
          scanned = scan_placed lo n c front spells spells' nodes wrote.room wrote.agrees wrote.wrote fan series m refl parts series small
              ∙ ap₂ (λ (l : List ℕ) (b : Bool). l ++ (if b then at ∷ [] else [])) (p.scanned ∙ map_same p.home home' m p.low (m - p.low) fits close.same) (same_test series)
              ∙ ap (λ (x : ℕ). map home' (between p.low m) ++ x ∷ []) (sym close.here)
              ∙ sym (map-append home' (between p.low m) (m ∷ []))
              ∙ ap (map home') (ap (λ (l : List ℕ). between p.low m ++ l) (sym (between_one m)) ∙ between_append p.low m (suc m) p.grown.tree.fits (omega arith))
              ∙ ap (λ (x : ℕ). map home' (between p.low x)) (sym step.one_more);
          grown = subst₂ (λ (l b : ℕ). IsGrown fan lo series p.low l home' (kept' series).total (kept' series).rescue (reads_of later) b (kept' series).waiting) (sym step.one_more) (sym step.same_base) after;
        }

    beside : (s : ℕ) → series ≢ s
        → ((k : ℕ) → k ≤ carry fan (kept series).leaves → ((nodes k).series ≡ series) × ((nodes k).level ≡ k) × ((nodes k).number ≡ made fan k (kept series).leaves))
        → ((i : ℕ) → get_or front i 0 ≤ width)
        → IsPlanted fan record { lo = lo; fills = front ++ n ∷ [] } (seen_of record { lo = lo; fills = front ++ n ∷ [] } spells) s (kept s)
        → IsPlanted fan record { lo = lo; fills = front ++ (n + suc (carry fan (kept series).leaves)) ∷ [] }
        (seen_of record { lo = lo; fills = front ++ (n + suc (carry fan (kept series).leaves)) ∷ [] } spells') s (kept s)
    beside s differs parts small p =
        let m = (kept series).leaves in
        let c = carry fan m in
        let at = (lo + length front) * width + n in
        let w : Volumes = record { lo = lo; fills = front ++ (n + suc c) ∷ [] } in
        let seen = seen_of record { lo = lo; fills = front ++ n ∷ [] } spells in
        record {
          few = p.few;
          low = p.low;
          home = p.home;
          scanned = scan_placed lo n c front spells spells' nodes wrote.room wrote.agrees wrote.wrote fan series m refl parts s small
              ∙ ap₂ (λ (l : List ℕ) (b : Bool). l ++ (if b then at ∷ [] else [])) p.scanned (other_test series s differs) ∙ append-nil (map p.home (between p.low (kept s).leaves));
          grown = grown_kept fan lo s p.low (kept s).leaves (kept s).base p.home (kept s).rescue (kept s).total (reads_of seen) (reads_of (seen_of w spells')) (kept s).waiting
              (keeps lo n c front spells spells' nodes wrote.room wrote.agrees wrote.wrote) p.grown;
        }

pub turned : Turned
turned fan count kept lo fill fills spells two forest =
    let sound = sound_switched lo fill fills spells fan count (λ s. (kept s).leaves) (λ s. (kept s).rescue) (λ s. (kept s).total) two (λ s h. (forest.each s h).few)
    (stands fan count kept record { lo = lo; fills = fill ∷ fills } (seen_of record { lo = lo; fills = fill ∷ fills } spells) forest) in
    record {
      small = sound.small;
      spelled = sound.spelled;
      whole = sound.whole;
      each = λ s h. planted_switched lo fill fills spells fan s (kept s) two (forest.small 0) forest.whole (forest.each s h);
    }

pub widened : Widened
widened fan count kept lo fills spells forest =
    subst (λ (s : Seen). IsForest fan count kept record { lo = lo; fills = fills ++ 0 ∷ [] } s) (sym (wide_same lo fills spells)) record {
      small = λ i. subst (λ (x : ℕ). x < width) (sym (fill_empty fills i)) (forest.small i);
      spelled = λ at is. forest.spelled at (subst (λ (x : ℕ). (nat_le lo (at / width) && nat_lt (at % width) x) ≡ true) (fill_empty fills (at / width - lo)) is);
      whole = forest.whole;
      each = λ s h. let p = forest.each s h in record {
        few = p.few;
        low = p.low;
        home = p.home;
        scanned = scan_empty (seen_of record { lo = lo; fills = fills } spells) s lo fills ∙ p.scanned;
        grown = p.grown;
      };
    }

planted_opened : (fan : ℕ) (v : Volumes) (seen : Seen) (series leaves base : ℕ) (rescue : ℕ → ℕ) (total : ℕ → ℕ → Summary) (waiting : ℕ → List Reference) (k : Kept)
    → k.leaves ≡ leaves → k.base ≡ base → k.rescue ≡ rescue → k.total ≡ total → k.waiting ≡ waiting → leaves < fan ^ 11
    → (low : ℕ) (home : ℕ → ℕ) → scan_of v seen series ≡ map home (between low leaves) → IsGrown fan v.lo series low leaves home total rescue (reads_of seen) base waiting
    → IsPlanted fan v seen series k
planted_opened fan v seen series leaves base rescue total waiting k l b r t w few low home scanned grown =
    let same : record { leaves = leaves; base = base; rescue = rescue; waiting = waiting; total = total } ≡ k =
    λ i. record { leaves = l' i; base = b' i; rescue = r' i; waiting = w' i; total = t' i } in
    subst (λ (x : Kept). IsPlanted fan v seen series x) same record { few = few; low = low; home = home; scanned = scanned; grown = grown }
  where
    l' : leaves ≡ k.leaves
    l' = sym l

    b' : base ≡ k.base
    b' = sym b

    r' : rescue ≡ k.rescue
    r' = sym r

    t' : total ≡ k.total
    t' = sym t

    w' : waiting ≡ k.waiting
    w' = sym w

pub opened_all : Opened
opened_all fan count join leaves rescue total kept v spells two ends few sound adds is = record {
  small = sound.small;
  spelled = sound.spelled;
  whole = sound.whole;
  each = λ series h.
      let s = sound.each series h in
      let o = is series h in
      let seen = seen_of v spells in
      planted_opened fan v seen series (leaves series) s.low (rescue series) (total series) (λ l. map (found join seen l) (pending fan seen (leaves series) (rescue series) l)) (kept series)
      o.same_leaves o.from o.same_points o.same_total o.waits (few series h) s.low s.home s.scanned
      (opened fan v.lo series s.low (leaves series) s.home (rescue series) (total series) join seen two (blind v spells sound.small) s.tree ends (adds series h));
}

pub born : Born
born fan kept spells =
    let v : Volumes = record { lo = 0; fills = 0 ∷ [] } in
    let none_live : (at : ℕ) → live v at ≡ true → ⊥ = λ at is. none_below at (live_parts v at is).index in
    record {
      small = λ i. zeros i;
      spelled = λ at is. absurd (none_live at is);
      whole = record {
        behind = λ at node e leaf k h. absurd (none_live at (seen_live v spells at node e));
        before = λ at node e. absurd (none_live at (seen_live v spells at node e));
      };
      each = λ s h. absurd (omega (arith, h));
    }
  where
    zero_at : (i : ℕ) → ◌≡◌ {A = ℕ} (get_or (0 ∷ []) i 0) 0
    zero_at zero = refl
    zero_at (suc i) = refl

    zeros : (i : ℕ) → get_or (0 ∷ []) i 0 < width
    zeros i = omega (arith, zero_at i)

    none_below : (at : ℕ) → at % width < get_or (0 ∷ []) (at / width - 0) 0 → ⊥
    none_below at h = omega (arith, h, zero_at (at / width - 0))

pub computed : Computed
computed join fan series at value total old ends worth same adds =
    let c = carry fan old.leaves in
    record {
      one_more = refl;
      same_base = refl;
      parts = λ k h. record { of_series = refl; of_level = refl; numbered = refl; worth = λ is. refl; elder = refl; takes = all_takes k; pushed = child_at k };
      new_points = λ k h. ap (λ (b : Bool). if b then at + k else old.rescue k) (le_yes k c h);
      old_points = λ k h. ap (λ (b : Bool). if b then at + k else old.rescue k) (le_no k c h);
      emptied = λ k h. ap (λ (b : Bool). if b then [] else if k == c then old.waiting k ++ found_in join k (at + k) (part join fan series at value old k) ∷ [] else old.waiting k) (lt_yes k c h);
      pushed = ap₂ (λ (a b : Bool). if a then [] else if b then old.waiting c ++ found_in join c (at + c) (part join fan series at value old c) ∷ [] else old.waiting c) (lt_no c c (omega arith)) (same_test c);
      old_levels = λ k h. ap₂ (λ (a b : Bool). if a then [] else if b then old.waiting k ++ found_in join k (at + k) (part join fan series at value old k) ∷ [] else old.waiting k) (lt_no k c (omega (arith, h))) (other_test k c (λ is. omega (arith, is, h)));
      worth = worth;
      same_total = same;
      adds = adds;
      ends = ends;
    }
  where
    le_yes : (a b : ℕ) → a ≤ b → nat_le a b ≡ true
    le_yes a b h = grind (arith, nat_tests, h)

    le_no : (a b : ℕ) → b < a → nat_le a b ≡ false
    le_no a b h = grind (arith, nat_tests, h)

    lt_yes : (a b : ℕ) → a < b → nat_lt a b ≡ true
    lt_yes a b h = grind (arith, nat_tests, h)

    lt_no : (a b : ℕ) → b ≤ a → nat_lt a b ≡ false
    lt_no a b h = grind (arith, nat_tests, h)

    child_at : (k : ℕ) → (found_in join k (at + k) (part join fan series at value old k)).child ≡ at + k
    child_at zero = refl
    child_at (suc k) = refl

    all_takes : (k : ℕ) → Takes join at value k old.waiting (λ l. found_in join l (at + l) (part join fan series at value old l)) (takes join fan series at value old k)
    all_takes zero = (refl, omega arith, refl)
    all_takes (suc k) = (refl, refl, refl)

scan_none : (seen : Seen) (s : ℕ) → ((at : ℕ) (node : Node) → seen at ≡ Some node → node.series ≢ s) → (o : ℕ) (fills : List ℕ) → scan_from seen s o fills ≡ []
scan_none seen s none_of o [] = refl
scan_none seen s none_of o (fill ∷ fills) = ap₂ (λ (a b : List ℕ). a ++ b) (row_none (o * width) fill) (scan_none seen s none_of (suc o) fills)
  where
    leaf_none : (at : ℕ) (n : Option Node) → ((node : Node) → n ≡ Some node → node.series ≢ s) → leaf_here s at n ≡ []
    leaf_none at None h = refl
    leaf_none at (Some node) h = ap (λ (b : Bool). if b then at ∷ [] else []) (off_right (node.level == 0) (node.series == s) (other_test node.series s (h node refl)))

    row_none : (at n : ℕ) → row seen s at n ≡ []
    row_none at zero = refl
    row_none at (suc n) = ap₂ (λ (a b : List ℕ). a ++ b) (leaf_none at (seen at) (none_of at)) (row_none (suc at) n)

planted_empty : (fan lo : ℕ) (fills : List ℕ) (seen : Seen) (s : ℕ) (k : Kept) → 1 < fan → IsEmpty k → scan_from seen s lo fills ≡ [] → IsPlanted fan record { lo = lo; fills = fills } seen s k
planted_empty fan lo fills seen s k two e scan = record {
  few = omega (arith, e.leaves, fan_pos fan 11 (omega arith));
  low = 0;
  home = λ i. 0;
  scanned = scan ∙ sym (ap (λ (x : ℕ). map (λ i. 0) (between 0 x)) e.leaves);
  grown = record {
    tree = record {
      fits = omega arith;
      nodes = λ l j live_one made_one. absurd (omega (arith, e.leaves, made_one, end_pos fan l j (omega arith)));
      rescues = λ l. subst (λ (x : ℕ). Elder fan lo 0 (λ i. 0) l x (k.rescue l)) (sym (made_none fan l k.leaves (omega arith) (omega (arith, e.leaves, fan_pos fan l (omega arith))))) (e.points l);
    };
    older = omega (arith, e.base);
    waits = λ l. subst (λ (rs : List Reference). Waits fan lo 0 (λ i. 0) k.total k.base k.leaves l rs) (sym (e.waits l)) record {
      each = tt;
      all =
          let a : made fan l k.base ≡ 0 = made_none fan l k.base (omega arith) (omega (arith, e.base, fan_pos fan l (omega arith))) in
          let b : made fan (suc l) k.leaves ≡ 0 = made_none fan (suc l) k.leaves (omega arith) (omega (arith, e.leaves, fan_pos fan (suc l) (omega arith))) in
          let c : made fan l k.leaves ≡ 0 = made_none fan l k.leaves (omega arith) (omega (arith, e.leaves, fan_pos fan l (omega arith))) in
          let d : made fan (suc l) k.leaves * fan ≡ 0 = ap (λ (x : ℕ). x * fan) b ∙ zero-mul fan in
          omega (arith, a, c, d);
    };
  };
}

pub added : Added
added fan count kept v seen two e seen_only forest = record {
  small = forest.small;
  spelled = λ at is. let was = forest.spelled at is in (was.0, was.1, omega (arith, was.2));
  whole = forest.whole;
  each = λ s h. elim (cases_eq s count) [
    | inl is ↦ subst (λ (x : ℕ). IsPlanted fan v seen x (kept x)) (sym is)
        (planted_empty fan v.lo v.fills seen count (kept count) two e (scan_none seen count
        (λ at node read. let was = forest.spelled at (seen_only at node read) in
        let same : was.0 ≡ node = same_node was.0 node (seen at) was.1 read in
        λ of. omega (arith, was.2, of, ap (λ (n : Node). n.series) same)) v.lo v.fills))
    | inr older ↦ forest.each s (omega (arith, h, older))
  ];
}
