-- A group is placed: leaf m and its inner nodes come behind all that is there.
use Rattle.std.proofs.Common.{◌≡◌, ◌⊎◌, inl, inr, ℕ, zero, suc, pred, ◌+◌, ◌-◌, ◌*◌, ◌/◌, ◌%◌, ◌^◌, ◌<◌, ◌≤◌, max, List, [], ◌∷◌, ◌++◌, length, sym, ◌∙◌, ap, ap₂, le_of_eq, subst, subst₂, arith, length-append, div-add-mod', div-mul-le_self, suc-mul, mul_comm}
use Rattle.std.proofs.Math.Nat.{pow-le-pow_right}
use Rattle.std.proofs.lemmas.Nat.{div-mul-add, mod-mul-add}
use Rattle.std.proofs.lemmas.Bool.{cases_lt, cases_eq}
use Rattle.ak_forest.specs.Numbers.{made, end, carry, digit}
use Rattle.ak_forest.specs.Tree.{Node, Reference, Link, Covers, Cut, Child, Elder, Children, Family, Body, Stands, IsTree, IsGrown, IsClose, IsLift, Waits, spot}
use Rattle.ak_summary.specs.declared.summary.Summary.{Summary}
use Rattle.ak_forest.proofs.Arith.{fan_pos, times_one, made_zero, times_le, end_made, made_end, made_none, made_mono, family_stop, made_split}
use Rattle.ak_forest.proofs.Tally.{node_tally, node_ends}
use Rattle.ak_forest.proofs.Carries.{carry_takes, carry_divides, made_at, made_past, level_full}

pub end_pos : (fan k j : ℕ) → 0 < fan → 0 < end fan k j
end_pos fan k j p = omega (arith, times_le 1 (suc j) (fan ^ k) (omega arith), fan_pos fan k p)

-- past the last level nothing is made
pub made_rest : (fan m k : ℕ) → 0 < fan → suc m < fan ^ 11 → carry fan m < k → made fan k (suc m) ≡ made fan k m
made_rest fan m k p few h = elim (cases_lt 10 k) [
  | inl high ↦
      let power : fan ^ 11 ≤ fan ^ k = pow-le-pow_right p high in
      made_none fan k (suc m) p (omega (arith, power, few)) ∙ sym (made_none fan k m p (omega (arith, power, few)))
  | inr low ↦ made_past fan m k p low h
]

-- a node that ends with leaf m is in its group
pub in_group : (fan m k j : ℕ) → 0 < fan → suc m < fan ^ 11 → end fan k j ≡ suc m → (k ≤ carry fan m) × (j ≡ made fan k m)
in_group fan m k j p few is =
    let whole : suc m % fan ^ k ≡ 0 = ap (λ (x : ℕ). x % fan ^ k) (sym is) ∙ (let e : suc j * fan ^ k ≡ suc j * fan ^ k + 0 = omega arith in ap (λ (x : ℕ). x % fan ^ k) e) ∙ mod-mul-add (suc j) (fan ^ k) 0 (fan_pos fan k p) in
    let small : k ≤ 10 = elim (cases_lt 10 k) [
      | inl high ↦ let power : fan ^ 11 ≤ fan ^ k = pow-le-pow_right p high in
          absurd (omega (arith, power, few, is, times_le 1 (suc j) (fan ^ k) (omega arith)))
      | inr low ↦ low
    ] in
    let within : k ≤ carry fan m = carry_takes fan 10 m k p small whole in
    let number : made fan k (suc m) ≡ suc j = ap (λ (x : ℕ). x / fan ^ k) (sym is ∙ (let e : suc j * fan ^ k ≡ suc j * fan ^ k + 0 = omega arith in e)) ∙ div-mul-add (suc j) (fan ^ k) 0 (fan_pos fan k p) in
    (within, omega (arith, number, made_at fan m k p within))

pub group_end : (fan m k : ℕ) → 0 < fan → k ≤ carry fan m → end fan k (made fan k m) ≡ suc m
group_end fan m k p h =
    let whole : suc m % fan ^ k ≡ 0 = carry_divides fan 10 m k p h in
    let split : suc m / fan ^ k * fan ^ k + suc m % fan ^ k ≡ suc m = div-add-mod' (suc m) (fan ^ k) in
    ap (λ (x : ℕ). x * fan ^ k) (sym (made_at fan m k p h)) ∙ omega (arith, split, whole)

module _ (fan lo low m : ℕ) (home later : ℕ → ℕ) (total total' : ℕ → ℕ → Summary) (two : 1 < fan) (few : suc m < fan ^ 11)
    (same : (i : ℕ) → i < m → later i ≡ home i) (same_total : (i j : ℕ) → j ≤ m → total' i j ≡ total i j) where
  spot_same : (k j : ℕ) → end fan k j ≤ m → spot fan later k j ≡ spot fan home k j
  spot_same k j fits = ap (λ (x : ℕ). x + k) (same (pred (end fan k j)) (omega (arith, fits, end_pos fan k j (omega arith))))

  pub link_moved : (k j at : ℕ) → end fan k j ≤ m → Link fan lo low home k j at → Link fan lo low later k j at
  link_moved k j at fits link = record { live = λ l. link.live l ∙ sym (spot_same k j fits); dead = link.dead }

  pub elder_moved : (k j at : ℕ) → j ≤ made fan k m → Elder fan lo low home k j at → Elder fan lo low later k j at
  elder_moved k zero at fits link = link
  elder_moved k (suc j) at fits link = link_moved k j at (end_made fan k j m (omega arith) fits) link

  pub tally_moved : (k j first : ℕ) (summary : Summary) → end fan k j ≤ m → Covers fan low home total k j first summary ⊎ Cut fan lo low k j first
      → Covers fan low later total' k j first summary ⊎ Cut fan lo low k j first
  tally_moved k j first summary fits (inl covers) =
      let room : j * fan ^ k < end fan k j = omega (arith, suc-mul j (fan ^ k), fan_pos fan k (omega arith)) in
      inl record {
        some = covers.some;
        begins = covers.begins ∙ sym (same (max low (j * fan ^ k)) (omega (arith, room, covers.some, fits)));
        worth = covers.worth ∙ sym (same_total (max low (j * fan ^ k)) (end fan k j) fits);
      }
  tally_moved k j first summary fits (inr cut) = inr cut

  pub children_moved : (k j : ℕ) (rs : List Reference) → (j + length rs) * fan ^ k ≤ m → Children fan lo low home total k j rs → Children fan lo low later total' k j rs
  children_moved k j [] fits links = tt
  children_moved k j (r ∷ rs) fits links =
      let len : suc j + length rs ≡ j + suc (length rs) = omega arith in
      let more : (suc j + length rs) * fan ^ k ≡ (j + suc (length rs)) * fan ^ k = ap (λ (x : ℕ). x * fan ^ k) len in
      let first : end fan k j ≤ (j + suc (length rs)) * fan ^ k = times_le (suc j) (j + suc (length rs)) (fan ^ k) (omega arith) in
      let here : end fan k j ≤ m = omega (arith, first, fits) in (
        record {
          link = link_moved k j r.child here links.0.link;
          ends = λ l. links.0.ends l ∙ sym (ap (λ (x : Summary). x.end) (same_total (pred (end fan k j)) (end fan k j) here));
          tally = tally_moved k j r.first r.summary here links.0.tally;
        },
        children_moved k (suc j) rs (omega (arith, more, fits)) links.1,
      )

  pub body_moved : (k j : ℕ) (rs : List Reference) → end fan k j ≤ m → Body fan lo low home total k j rs → Body fan lo low later total' k j rs
  body_moved zero j rs fits body = body
  body_moved (suc k) j rs fits body =
      let n = length rs in
      let stop : ((suc j * fan - n) + n) * fan ^ k ≡ end fan (suc k) j = family_stop fan k j n body.most in
      record { some = body.some; most = body.most; each = children_moved k (suc j * fan - n) rs (omega (arith, stop, fits)) body.each; missing = body.missing }

  -- a link to a node of the new group
  pub link_new : (k : ℕ) → low ≤ m → k ≤ carry fan m → Link fan lo low later k (made fan k m) (later m + k)
  link_new k fits h =
      let stop : end fan k (made fan k m) ≡ suc m = group_end fan m k (omega arith) h in
      record { live = λ l. sym (ap (λ (x : ℕ). later (pred x) + k) stop); dead = λ d. absurd (omega (arith, d, stop, fits)) }

  children_push : (k j : ℕ) (rs : List Reference) (r : Reference) → Children fan lo low later total' k j rs → Child fan lo low later total' k (j + length rs) r
      → Children fan lo low later total' k j (rs ++ r ∷ [])
  children_push k j [] r links link = let is : j + 0 ≡ j = omega arith in (subst (λ (x : ℕ). Child fan lo low later total' k x r) is link, tt)
  children_push k j (x ∷ rs) r links link =
      let is : j + suc (length rs) ≡ suc j + length rs = omega arith in
      (links.0, children_push k (suc j) rs r links.1 (subst (λ (y : ℕ). Child fan lo low later total' k y r) is link))

  -- the references that waited and the new one are the children of the new node above
  pub family_new : (base k : ℕ) (rs : List Reference) (r : Reference) → base ≤ low → low ≤ m → k < carry fan m → Child fan lo low later total' k (made fan k m) r
      → Waits fan lo low home total base m k rs → Family fan lo low later total' k (made fan (suc k) m) (rs ++ r ∷ [])
  family_new base k rs r older fits h at waits =
      let j = made fan (suc k) m in
      let start = max (made fan k base) (j * fan) in
      let len : length (rs ++ r ∷ []) ≡ length rs + 1 = length-append rs (r ∷ []) in
      let here : made fan k (suc m) ≡ suc (made fan k m) = made_at fan m k (omega arith) (omega arith) in
      let full : made fan k (suc m) ≡ suc j * fan = level_full fan m k (omega arith) h in
      let begin : suc j * fan - length (rs ++ r ∷ []) ≡ start = omega (arith, len, here, full, waits.all) in
      let below : made fan k m * fan ^ k ≤ m = div-mul-le_self m (fan ^ k) in
      let moved : Children fan lo low later total' k start rs = children_moved k start rs (omega (arith, ap (λ (x : ℕ). x * fan ^ k) waits.all, below)) waits.each in
      let last : Child fan lo low later total' k (start + length rs) r = subst (λ (x : ℕ). Child fan lo low later total' k x r) (sym waits.all) at in
      record {
        some = omega (arith, len);
        most = omega (arith, len, here, full, waits.all, suc-mul j fan);
        each = subst (λ (x : ℕ). Children fan lo low later total' k x (rs ++ r ∷ [])) (sym begin) (children_push k start rs r moved last);
        missing = λ less.
            let is : start ≡ made fan k base = omega (arith, len, here, full, waits.all, suc-mul j fan, less) in
            let under : made fan k base * fan ^ k ≤ base = div-mul-le_self base (fan ^ k) in
            omega (arith, ap (λ (x : ℕ). x * fan ^ k) (begin ∙ is), under, older);
      }

  -- what waits at a level after the close
  pub waits_same : (base k : ℕ) (rs : List Reference) → carry fan m < k → Waits fan lo low home total base m k rs → Waits fan lo low later total' base (suc m) k rs
  waits_same base k rs h waits =
      let here : made fan k (suc m) ≡ made fan k m = made_rest fan m k (omega arith) few h in
      let above : made fan (suc k) (suc m) ≡ made fan (suc k) m = made_rest fan m (suc k) (omega arith) few (omega (arith, h)) in
      let begin : max (made fan k base) (made fan (suc k) m * fan) ≡ max (made fan k base) (made fan (suc k) (suc m) * fan) = ap (λ (x : ℕ). max (made fan k base) (x * fan)) (sym above) in
      let below : made fan k m * fan ^ k ≤ m = div-mul-le_self m (fan ^ k) in
      let moved = children_moved k (max (made fan k base) (made fan (suc k) m * fan)) rs (omega (arith, ap (λ (x : ℕ). x * fan ^ k) waits.all, below)) waits.each in
      record {
        each = subst (λ (x : ℕ). Children fan lo low later total' k x rs) begin moved;
        all = ap (λ (x : ℕ). x + length rs) (sym begin) ∙ waits.all ∙ sym here;
      }

  pub waits_pushed : (base k : ℕ) (rs : List Reference) (r : Reference) → k ≡ carry fan m → base ≤ low → low ≤ m → Child fan lo low later total' k (made fan k m) r
      → Waits fan lo low home total base m k rs → Waits fan lo low later total' base (suc m) k (rs ++ r ∷ [])
  waits_pushed base k rs r is older fits at waits =
      let start = max (made fan k base) (made fan (suc k) m * fan) in
      let here : made fan k (suc m) ≡ suc (made fan k m) = made_at fan m k (omega arith) (omega (arith, is)) in
      let above : made fan (suc k) (suc m) ≡ made fan (suc k) m = made_rest fan m (suc k) (omega arith) few (omega (arith, is)) in
      let begin : start ≡ max (made fan k base) (made fan (suc k) (suc m) * fan) = ap (λ (x : ℕ). max (made fan k base) (x * fan)) (sym above) in
      let below : made fan k m * fan ^ k ≤ m = div-mul-le_self m (fan ^ k) in
      let moved : Children fan lo low later total' k start rs = children_moved k start rs (omega (arith, ap (λ (x : ℕ). x * fan ^ k) waits.all, below)) waits.each in
      let last : Child fan lo low later total' k (start + length rs) r = subst (λ (x : ℕ). Child fan lo low later total' k x r) (sym waits.all) at in
      record {
        each = subst (λ (x : ℕ). Children fan lo low later total' k x (rs ++ r ∷ [])) begin (children_push k start rs r moved last);
        all = ap (λ (x : ℕ). x + length (rs ++ r ∷ [])) (sym begin) ∙ omega (arith, length-append rs (r ∷ []), waits.all, here);
      }

  pub waits_emptied : (base k : ℕ) → k < carry fan m → base ≤ m → Waits fan lo low later total' base (suc m) k []
  waits_emptied base k h older =
      let full : made fan k (suc m) ≡ suc (made fan (suc k) m) * fan = level_full fan m k (omega arith) h in
      let up : made fan (suc k) (suc m) * fan ≡ suc (made fan (suc k) m) * fan = ap (λ (x : ℕ). x * fan) (made_at fan m (suc k) (omega arith) h) in
      let less : made fan k base ≤ made fan k (suc m) = made_mono fan k base (suc m) (omega arith) (omega (arith, older)) in
      record { each = tt; all = omega (arith, full, up, less) }

-- nothing waits before the first leaf
pub waits_none : (fan lo low k : ℕ) (home : ℕ → ℕ) (total : ℕ → ℕ → Summary) → 1 < fan → Waits fan lo low home total low low k []
waits_none fan lo low k home total two = record { each = tt; all = omega (arith, made_split fan k low) }

-- at a level there wait no more than its digit
pub waits_digit : (fan lo low base leaves k : ℕ) (home : ℕ → ℕ) (total : ℕ → ℕ → Summary) (rs : List Reference) → 1 < fan → base ≤ leaves
    → Waits fan lo low home total base leaves k rs → length rs ≤ digit fan k leaves
waits_digit fan lo low base leaves k home total rs two older waits = omega (arith, waits.all, made_split fan k leaves)

-- a close keeps what waits, also where older children are gone
module _ (fan lo low m at : ℕ) (value : Summary) (base : ℕ) (join : Summary → Summary → Summary) (home home' : ℕ → ℕ) (total total' : ℕ → ℕ → Summary) (waiting waiting' : ℕ → List Reference)
    (fresh : ℕ → Reference) (taken : ℕ → List Reference) (two : 1 < fan) (few : suc m < fan ^ 11) (older : base ≤ low) (fits : low ≤ m)
    (waits : (k : ℕ) → Waits fan lo low home total base m k (waiting k))
    (lift : IsLift fan m at value low join home home' total total' waiting waiting' fresh taken) where
  link_lifted : (k : ℕ) → k ≤ carry fan m → Link fan lo low home' k (made fan k m) (fresh k).child
  link_lifted k h =
      let place : (fresh k).child ≡ home' m + k = lift.pushed k h ∙ ap (λ (x : ℕ). x + k) (sym lift.here) in
      subst (λ (x : ℕ). Link fan lo low home' k (made fan k m) x) (sym place) (link_new fan lo low m home home' total total' two few lift.same lift.same_total k fits h)

  family_over : (k : ℕ) → k < carry fan m → Child fan lo low home' total' k (made fan k m) (fresh k) → Family fan lo low home' total' k (made fan (suc k) m) (taken (suc k))
  family_over k h child =
      subst (λ (rs : List Reference). Family fan lo low home' total' k (made fan (suc k) m) rs) (sym (lift.takes (suc k) h).0)
      (family_new fan lo low m home home' total total' two few lift.same lift.same_total base k (waiting k) (fresh k) older fits h child (waits k))

  -- the new reference at a level
  pub child_lifted : (k : ℕ) → k ≤ carry fan m → Child fan lo low home' total' k (made fan k m) (fresh k)
  child_lifted zero h =
      let takes = lift.takes 0 h in
      let stop : end fan 0 (made fan 0 m) ≡ suc m = group_end fan m 0 (omega arith) h in
      let begin : made fan 0 m * fan ^ 0 ≡ m = times_one fan (made fan 0 m) ∙ made_zero fan m in
      let start : max low (made fan 0 m * fan ^ 0) ≡ m = omega (arith, begin, fits) in
      record {
        link = link_lifted 0 h;
        ends = λ l. ap (λ (x : Summary). x.end) (takes.2 ∙ sym lift.worth) ∙ sym (ap (λ (x : ℕ). (total' (pred x) x).end) stop);
        tally = inl record {
          some = omega (arith, stop, fits);
          begins = takes.1 ∙ sym lift.here ∙ ap home' (sym start);
          worth = takes.2 ∙ sym lift.worth ∙ sym (ap₂ total' start stop);
        };
      }
  child_lifted (suc k) h =
      let takes = lift.takes (suc k) h in
      let j = made fan (suc k) m in
      let family = family_over k h (child_lifted k (omega (arith, h))) in
      let stop : end fan (suc k) j ≡ suc m = group_end fan m (suc k) (omega arith) h in
      record {
        link = link_lifted (suc k) h;
        ends = λ l. ap (λ (x : Summary). x.end) takes.2 ∙ node_ends fan lo low home' total' join lift.ends k j (taken (suc k)) l family;
        tally = subst₂ (λ (f : ℕ) (s : Summary). Covers fan low home' total' (suc k) j f s ⊎ Cut fan lo low (suc k) j f) (sym takes.1) (sym takes.2)
            (node_tally fan lo low (suc m) home' total' join (omega arith) lift.adds k j (taken (suc k)) (le_of_eq stop) (omega (arith, stop, fits)) family);
      }

  -- what the new node above a level takes
  pub family_lifted : (k : ℕ) → k < carry fan m → Family fan lo low home' total' k (made fan (suc k) m) (taken (suc k))
  family_lifted k h = family_over k h (child_lifted k (omega (arith, h)))

  pub waits_lifted : (k : ℕ) → Waits fan lo low home' total' base (suc m) k (waiting' k)
  waits_lifted k = elim (cases_lt (carry fan m) k) [
    | inl past ↦ subst (λ (rs : List Reference). Waits fan lo low home' total' base (suc m) k rs) (sym (lift.old_levels k past))
        (waits_same fan lo low m home home' total total' two few lift.same lift.same_total base k (waiting k) past (waits k))
    | inr in' ↦ elim (cases_eq k (carry fan m)) [
      | inl top ↦ subst (λ (rs : List Reference). Waits fan lo low home' total' base (suc m) k rs)
          (ap (λ (x : ℕ). waiting x ++ fresh x ∷ []) top ∙ sym (ap waiting' top ∙ lift.grown))
          (waits_pushed fan lo low m home home' total total' two few lift.same lift.same_total base k (waiting k) (fresh k) top older fits (child_lifted k in') (waits k))
      | inr under ↦ subst (λ (rs : List Reference). Waits fan lo low home' total' base (suc m) k rs) (sym (lift.emptied k (omega (arith, in', under))))
          (waits_emptied fan lo low m home home' total total' two few lift.same lift.same_total base k (omega (arith, in', under)) (omega (arith, older, fits)))
    ]
  ]

-- a close keeps the invariant
module _ (fan lo series low m at : ℕ) (value : Summary) (base : ℕ) (join : Summary → Summary → Summary) (home home' rescue rescue' : ℕ → ℕ) (total total' : ℕ → ℕ → Summary) (reads reads' : ℕ → Node → Type 0)
    (waiting waiting' : ℕ → List Reference) (fresh : ℕ → Reference) (nodes : ℕ → Node) (two : 1 < fan) (few : suc m < fan ^ 11)
    (old : IsGrown fan lo series low m home total rescue reads base waiting)
    (step : IsClose fan series m at value low join home home' rescue rescue' total total' reads reads' waiting waiting' fresh nodes) where
  lift_of : IsLift fan m at value low join home home' total total' waiting waiting' fresh (λ k. (nodes k).references)
  lift_of = record {
    here = step.here;
    same = step.same;
    worth = step.worth;
    same_total = step.same_total;
    ends = step.ends;
    adds = step.adds;
    takes = λ k h. (step.parts k h).takes;
    pushed = λ k h. (step.parts k h).pushed;
    emptied = step.emptied;
    grown = step.grown;
    old_levels = step.old_levels;
  }

  fits : low ≤ m
  fits = old.tree.fits

  body_new : (k : ℕ) → k ≤ carry fan m → Body fan lo low home' total' k (made fan k m) (nodes k).references
  body_new zero h = (step.parts 0 h).takes.0
  body_new (suc k) h = family_lifted fan lo low m at value base join home home' total total' waiting waiting' fresh (λ l. (nodes l).references) two few old.older fits old.waits lift_of k h

  stands_new : (k : ℕ) → k ≤ carry fan m → Stands fan lo series low home' total' reads' k (made fan k m)
  stands_new k h =
      let part = step.parts k h in
      let place : spot fan home' k (made fan k m) ≡ at + k = ap (λ (x : ℕ). home' (pred x) + k) (group_end fan m k (omega arith) h) ∙ ap (λ (x : ℕ). x + k) step.here in
      record {
        node = nodes k;
        read = subst (λ (x : ℕ). reads' x (nodes k)) (sym place) (step.written k h);
        of_series = part.of_series;
        of_level = part.of_level;
        numbered = part.numbered;
        worth = λ is. part.worth is ∙ sym step.worth ∙ ap (λ (x : ℕ). total' x (suc x)) (sym (ap (λ (x : ℕ). made fan x m) is ∙ made_zero fan m));
        elder = subst (λ (x : ℕ). Elder fan lo low home' k (made fan k m) x) (sym part.elder)
            (elder_moved fan lo low m home home' total total' two few step.same step.same_total k (made fan k m) (rescue k) (omega arith) (old.tree.rescues k));
        body = body_new k h;
      }

  stands_old : (k j : ℕ) → low < end fan k j → end fan k j ≤ m → Stands fan lo series low home' total' reads' k j
  stands_old k j l e =
      let s = old.tree.nodes k j l e in
      record {
        node = s.node;
        read = subst (λ (x : ℕ). reads' x s.node) (sym (spot_same fan lo low m home home' total total' two few step.same step.same_total k j e)) (step.keeps (spot fan home k j) s.node s.read);
        of_series = s.of_series;
        of_level = s.of_level;
        numbered = s.numbered;
        worth = λ is. s.worth is ∙ sym (step.same_total j (suc j) (omega (arith, e, times_le 1 (fan ^ k) (suc j) (fan_pos fan k (omega arith)), mul_comm (suc j) (fan ^ k))));
        elder = elder_moved fan lo low m home home' total total' two few step.same step.same_total k j s.node.elder (omega (arith, made_end fan k j m (omega arith) e)) s.elder;
        body = body_moved fan lo low m home home' total total' two few step.same step.same_total k j s.node.references e s.body;
      }

  pub tree_placed : IsTree fan lo series low (suc m) home' total' rescue' reads'
  tree_placed = record {
    fits = omega (arith, fits);
    nodes = λ k j l e. elim (cases_lt m (end fan k j)) [
      | inl new ↦
          let found = in_group fan m k j (omega arith) few (omega (arith, new, e)) in
          subst (λ (x : ℕ). Stands fan lo series low home' total' reads' k x) (sym found.1) (stands_new k found.0)
      | inr within ↦ stands_old k j l within
    ];
    rescues = λ k. elim (cases_lt (carry fan m) k) [
      | inl past ↦
          subst₂ (λ (j a : ℕ). Elder fan lo low home' k j a) (sym (made_rest fan m k (omega arith) few past)) (sym (step.old_points k past))
          (elder_moved fan lo low m home home' total total' two few step.same step.same_total k (made fan k m) (rescue k) (omega arith) (old.tree.rescues k))
      | inr in' ↦
          subst₂ (λ (j a : ℕ). Elder fan lo low home' k j a) (sym (made_at fan m k (omega arith) in')) (ap (λ (x : ℕ). x + k) step.here ∙ sym (step.new_points k in'))
          (link_new fan lo low m home home' total total' two few step.same step.same_total k fits in')
    ];
  }

  pub grown_placed : IsGrown fan lo series low (suc m) home' total' rescue' reads' base waiting'
  grown_placed = record {
    tree = tree_placed;
    older = old.older;
    waits = waits_lifted fan lo low m at value base join home home' total total' waiting waiting' fresh (λ k. (nodes k).references) two few old.older fits old.waits lift_of;
  }
