-- A row of whole groups, and what each of its blocks is.
use Rattle.std.proofs.Common.{◌≡◌, inl, inr, ℕ, zero, suc, ◌+◌, ◌-◌, ◌*◌, ◌/◌, ◌%◌, ◌<◌, ◌≤◌, true, get_or, Some, refl, sym, ◌∙◌, ap, subst, subst₂, arith}
use Rattle.std.proofs.lemmas.Bool.{cases_lt, cases_eq}
use Rattle.ak_forest.specs.Numbers.{made, carry}
use Rattle.ak_forest.specs.Tree.{Seen, Node, width}
use Rattle.ak_forest.specs.Image.{Volumes, live, seen_of, Holds, IsWhole}
use Rattle.ak_forest.specs.Written.{Groups, RowsAreWhole, WholeAreRows}
use Rattle.ak_forest.proofs.Arith.{made_zero}
use Rattle.ak_forest.proofs.Group.{same_node, live_parts, parts_live}
use Rattle.ak_forest.proofs.Switch.{seen_live}

-- the group that a block of a row is in
record InGroup (fan : ℕ) (seen : Seen) (from to x : ℕ) : Type 0 where
  first : ℕ
  series : ℕ
  m : ℕ
  k : ℕ
  within : k ≤ carry fan m
  place : x ≡ first + k
  after : from ≤ first
  before : first + carry fan m < to
  holds : (l : ℕ) → l ≤ carry fan m → Holds seen (first + l) series l (made fan l m)

in_row : (fan : ℕ) (seen : Seen) (most at count x : ℕ) → Groups fan seen most at count → at ≤ x → x < at + count → InGroup fan seen at (at + count) x
in_row fan seen zero at count x none above below = absurd (omega (arith, none))
in_row fan seen (suc most) at count x (inl none) above below = absurd (omega (arith, none))
in_row fan seen (suc most) at count x (inr g) above below = elim (cases_lt x (at + suc (carry fan g.1))) [
  | inl here ↦ record {
    first = at;
    series = g.0;
    m = g.1;
    k = x - at;
    within = omega (arith, here, above);
    place = omega (arith, above);
    after = omega arith;
    before = omega (arith, g.3);
    holds = g.4;
  }
  | inr later ↦
      let r = in_row fan seen most (at + suc (carry fan g.1)) g.2 x g.5 later (omega (arith, g.3, below)) in
      record {
        first = r.first;
        series = r.series;
        m = r.m;
        k = r.k;
        within = r.within;
        place = r.place;
        after = omega (arith, r.after);
        before = omega (arith, r.before, g.3);
        holds = r.holds;
      }
]

pub rows_are_whole : RowsAreWhole
rows_are_whole fan v spells pos small rows =
    let seen = seen_of v spells in
    record {
      behind = λ at node e leaf k h.
          let r = group_of at node e in
          let there = r.holds r.k r.within in
          let same : node ≡ there.node = same_node node there.node (seen at) e (ap seen r.place ∙ there.read) in
          let first : 0 ≡ r.k = sym leaf ∙ ap (λ (n : Node). n.level) same ∙ there.of_level in
          let number : node.number ≡ r.m = ap (λ (n : Node). n.number) same ∙ there.numbered ∙ ap (λ (x : ℕ). made fan x r.m) (sym first) ∙ made_zero fan r.m in
          let of : node.series ≡ r.series = ap (λ (n : Node). n.series) same ∙ there.of_series in
          let within : k ≤ carry fan r.m = subst (λ (x : ℕ). k ≤ carry fan x) number h in
          let place : r.first + k ≡ at + k = omega (arith, r.place, first) in (
            omega (arith, within, r.after, r.before, r.place, first, small (at / width - v.lo), (live_parts v at (seen_live v spells at node e)).ordinal),
            subst₂ (λ (x s : ℕ). Holds seen x s k (made fan k node.number)) place (sym of) (subst (λ (x : ℕ). Holds seen (r.first + k) r.series k (made fan k x)) (sym number) (r.holds k within)),
          );
      before = λ at node e.
          let r = group_of at node e in
          let there = r.holds r.k r.within in
          let same : node ≡ there.node = same_node node there.node (seen at) e (ap seen r.place ∙ there.read) in
          let level : node.level ≡ r.k = ap (λ (n : Node). n.level) same ∙ there.of_level in
          let of : node.series ≡ r.series = ap (λ (n : Node). n.series) same ∙ there.of_series in
          let place : r.first + 0 ≡ at - node.level = omega (arith, r.place, level) in (
            omega (arith, r.after, r.place, level, (live_parts v at (seen_live v spells at node e)).ordinal),
            (r.m, subst₂ (λ (x s : ℕ). Holds seen x s 0 r.m) place (sym of) (subst (λ (x : ℕ). Holds seen (r.first + 0) r.series 0 x) (made_zero fan r.m) (r.holds 0 (omega arith))), omega (arith, r.within, level)),
          );
    }
  where
    group_of : (at : ℕ) (node : Node) → seen_of v spells at ≡ Some node
        → InGroup fan (seen_of v spells) ((v.lo + (at / width - v.lo)) * width) ((v.lo + (at / width - v.lo)) * width + get_or v.fills (at / width - v.lo) 0) at
    group_of at node e =
        let p = live_parts v at (seen_live v spells at node e) in
        in_row fan (seen_of v spells) (get_or v.fills (at / width - v.lo) 0) ((v.lo + (at / width - v.lo)) * width) (get_or v.fills (at / width - v.lo) 0) at (rows (at / width - v.lo))
        (omega (arith, p.ordinal)) (omega (arith, p.ordinal, p.index))

-- and back: where no group reaches over an address, a group begins there
module _ (fan : ℕ) (v : Volumes) (spells : Seen) (pos : 0 < fan) (small : (i : ℕ) → get_or v.fills i 0 < width)
    (spelled : (at : ℕ) → live v at ≡ true → (node : Node) × (seen_of v spells at ≡ Some node)) (whole : IsWhole fan (seen_of v spells)) (i : ℕ) where
  base : ℕ
  base = (v.lo + i) * width

  fill : ℕ
  fill = get_or v.fills i 0

  -- each leaf before an address has its whole group before it
  abbrev Clear : ℕ → Type 0
  Clear at = (a s m : ℕ) → (v.lo + i) * width ≤ a → a < at → Holds (seen_of v spells) a s 0 m → a + carry fan m < at

  node_there : (at : ℕ) → base ≤ at → at < base + fill → (node : Node) × (seen_of v spells at ≡ Some node)
  unfolding base fill
  node_there at above below =
      let o : at / width ≡ v.lo + i = omega (arith, small i, above, below) in
      let place : at / width - v.lo ≡ i = omega (arith, o) in
      let index : at % width < get_or v.fills i 0 = omega (arith, small i, above, below) in
      spelled at (parts_live v at record { ordinal = omega (arith, o); index = subst (λ (x : ℕ). at % width < get_or v.fills x 0) (sym place) index })

  in_ordinal : (at : ℕ) (node : Node) → seen_of v spells at ≡ Some node → base ≤ at → at < base + width → at < base + fill
  unfolding base fill
  in_ordinal at node e above below =
      let p = live_parts v at (seen_live v spells at node e) in
      let place : at / width - v.lo ≡ i = omega (arith, above, below) in
      let index : at % width < get_or v.fills i 0 = subst (λ (x : ℕ). at % width < get_or v.fills x 0) place p.index in
      omega (arith, above, below, index)

  groups_from : (most at count : ℕ) → base ≤ at → at + count ≡ base + fill → count ≤ most → Clear at → Groups fan (seen_of v spells) most at count
  unfolding base fill
  groups_from zero at count from to enough clear = omega (arith, enough)
  groups_from (suc most) at count from to enough clear = elim (cases_eq count 0) [
    | inl done ↦ inl done
    | inr more ↦
        let there = node_there at from (omega (arith, to, more)) in
        let n = there.0 in
        let b = whole.before at n there.1 in
        let leaf : n.level ≡ 0 = elim (cases_eq n.level 0) [
          | inl is ↦ is
          | inr inner ↦
              let c = clear (at - n.level) n.series b.1.0 (omega (arith, from, to, more, b.0, small i)) (omega (arith, inner, b.0)) b.1.1 in
              absurd (omega (arith, c, b.1.2, b.0))
        ] in
        let m = n.number in
        let holds : (k : ℕ) → k ≤ carry fan m → Holds (seen_of v spells) (at + k) n.series k (made fan k m) = λ k h. (whole.behind at n there.1 leaf k h).1 in
        let last = holds (carry fan m) (omega arith) in
        let room = (whole.behind at n there.1 leaf (carry fan m) (omega arith)).0 in
        let inside : at + carry fan m < base + fill = in_ordinal (at + carry fan m) last.node last.read (omega (arith, from)) (omega (arith, room, from, to, more, small i)) in
        let rest = count - suc (carry fan m) in
        let split : count ≡ suc (carry fan m) + rest = omega (arith, inside, to) in
        inr (
          n.series,
          m,
          rest,
          split,
          holds,
          groups_from most (at + suc (carry fan m)) rest (omega (arith, from)) (omega (arith, to, split)) (omega (arith, enough, split))
              (λ a s l above below h. elim (cases_lt a at) [
                | inl old ↦ omega (arith, clear a s l above old h)
                | inr new_one ↦
                    let k = a - at in
                    let hk = holds k (omega (arith, below, new_one)) in
                    let place : at + k ≡ a = omega (arith, new_one) in
                    let same : h.node ≡ hk.node = same_node h.node hk.node (seen_of v spells a) h.read (ap (seen_of v spells) (sym place) ∙ hk.read) in
                    let first : 0 ≡ k = sym h.of_level ∙ ap (λ (x : Node). x.level) same ∙ hk.of_level in
                    let number : l ≡ m = sym h.numbered ∙ ap (λ (x : Node). x.number) same ∙ hk.numbered ∙ ap (λ (x : ℕ). made fan x m) (sym first) ∙ made_zero fan m in
                    omega (arith, ap (carry fan) number, first, new_one)
              ]),
        )
  ]

pub whole_are_rows : WholeAreRows
unfolding base fill
whole_are_rows fan v spells pos small spelled whole i = groups_from fan v spells pos small spelled whole i (get_or v.fills i 0) ((v.lo + i) * width) (get_or v.fills i 0) (omega arith) refl (omega arith)
    (λ a s m above below h. absurd (omega (arith, above, below)))
