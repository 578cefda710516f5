-- Nodes to which what waits leads.
use Rattle.std.proofs.Common.{◌≡◌, ◌∙◌, ℕ, zero, suc, ◌+◌, ◌-◌, ◌*◌, ◌/◌, ◌^◌, ◌<◌, ◌≤◌, List, [], ◌∷◌, ◌++◌, length, map, get_or, Result, Ok, Err, refl, sym, ap, subst, arith, inr, append_assoc}
use Rattle.std.proofs.lemmas.List.{length-map}
use Rattle.std.specs.Result.{IfErr}
use Rattle.ak_base.specs.declared.point.Addr.{Addr}
use Rattle.ak_base.specs.declared.stop.Stop.{Stop}
use Rattle.ak_bytes.specs.declared.head.Head.{Head}
use Rattle.ak_forest.specs.Tree.{Node, Reference}
use Rattle.ak_host.specs.Moments.{HostState}
use Rattle.ak_image.specs.Blocks.{Seen}
use Rattle.ak_image.specs.Named.{IsNamed, IsNodeOf, IsDamagedNode}
use Rattle.ak_image.specs.Nodes.{reference_of}
use Rattle.ak_image.specs.Planted.{waiting_of}
use Rattle.ak_inner.specs.Nodes.{SpellsInner}
use Rattle.ak_inner.specs.declared.reference.Ref.{Ref}
use Rattle.ak_levels.specs.Pending.{Lists, pending_at}
use Rattle.ak_meta.specs.Contents.{Content}
use Rattle.ak_scene.proofs.Stopped.{reason_weaker}
use Rattle.ak_scene.specs.Scenes.{IsReached, AreReached, IsUnspelled}
use Rattle.ak_scene.specs.Stops.{IsQueryStop}
use Rattle.ak_summary.specs.Folds.{no_summary}
use Rattle.ak_volumes.specs.Ordinals.{Ordinals, IsLive}

-- references in a row, each of which is reached by what stands behind it
in_a_row : (o : Ordinals) (seen : Seen) (series count : ℕ) (v : Lists) (level stop : ℕ) (all front : List Reference) (rs : List Ref)
    → ((front : List Reference) (r : Reference) (behind : List Reference) → suc (length behind) ≤ length all → all ≡ front ++ r ∷ behind → IsReached o seen series count v level (stop - suc (length behind)) r.child)
    → all ≡ front ++ map reference_of rs → (first : ℕ) → length rs ≤ length all → first + length rs ≡ stop → AreReached o seen series count v level first rs
in_a_row o seen series count v level stop all front [] each is first few ends = tt
in_a_row o seen series count v level stop all front (r ∷ rs) each is first few ends =
    let mapped : length (map reference_of rs) ≡ length rs = length-map rs reference_of in
    let here = each front (reference_of r) (map reference_of rs) (omega (arith, mapped, few)) is in
    let next : all ≡ (front ++ reference_of r ∷ []) ++ map reference_of rs = is ∙ sym (append_assoc front (reference_of r ∷ []) (map reference_of rs)) in (
      subst (λ (n : ℕ). IsReached o seen series count v level n r.addr.0) (omega (arith, mapped, ends)) here,
      in_a_row o seen series count v level stop all (front ++ reference_of r ∷ []) rs each next (suc first) (omega (arith, few)) (omega (arith, ends)),
    )

-- what waits on a level
pub reached_waits : (o : Ordinals) (seen : Seen) (series count : ℕ) (v : Lists) (level first : ℕ) (rs : List Ref) → level ≤ 10 → rs ≡ pending_at v level
    → first ≡ count / 32 ^ level - length rs → length rs ≤ count / 32 ^ level → AreReached o seen series count v level first rs
reached_waits o seen series count v level first rs top is first_is few =
    let all : List Reference = map reference_of rs in
    in_a_row o seen series count v level (count / 32 ^ level) all [] rs
    (λ front r behind less parts. IsReached.waits level front r behind top (ap (map reference_of) (sym is) ∙ parts)) refl first
    (omega (arith, length-map rs reference_of)) (omega (arith, first_is, few))

-- the children of a node that is spelled
pub reached_children : (o : Ordinals) (seen : Seen) (series count : ℕ) (v : Lists) (level number first : ℕ) (a : Addr) (head : Head) (rs : List Ref) → 1 ≤ level
    → IsReached o seen series count v level number a.0 → IsLive o a.0 → SpellsInner (seen a.0) head rs → head.level ≡ level → head.series ≡ series → head.number ≡ number → head.addr ≡ a
    → length rs ≤ 32 → first ≡ suc number * 32 - length rs → AreReached o seen series count v (level - 1) first rs
reached_children o seen series count v zero number first a head rs above reached live spells level_is series_is number_is addr_is few first_is = absurd (omega (arith, above))
reached_children o seen series count v (suc k) number first a head rs above reached live spells level_is series_is number_is addr_is few first_is =
    let node : Node = record { series = series; level = suc k; number = number; elder = head.elder.0; references = map reference_of rs; value = no_summary } in
    let here : IsNodeOf seen series (suc k) number a.0 node = record {
      is = inr record {
        head = head;
        refs = rs;
        spells = spells;
        level_is = level_is;
        series_is = series_is;
        number_is = number_is;
        address_is = ap (λ (b : Addr). b.0) addr_is;
        elder_is = refl;
        references_are = refl;
      };
      series_is = refl;
      level_is = refl;
      number_is = refl;
    } in
    let mapped : length (map reference_of rs) ≡ length rs = length-map rs reference_of in
    let down : k ≡ suc k - 1 = omega arith in
    subst (λ (l : ℕ). AreReached o seen series count v l first rs) down
    (in_a_row o seen series count v k (suc number * 32) (map reference_of rs) [] rs
    (λ front r behind less parts. subst (λ (n : ℕ). IsReached o seen series count v k n r.child) (omega (arith, less, mapped, few))
    (IsReached.child k number a.0 node front r behind reached live here parts)) refl first (omega (arith, mapped)) (omega (arith, first_is, few)))

-- the one in a place
pub reached_at : (o : Ordinals) (seen : Seen) (series count : ℕ) (v : Lists) (level first i : ℕ) (rs : List Ref) (d : Ref) → i < length rs
    → AreReached o seen series count v level first rs → IsReached o seen series count v level (first + i) (get_or rs i d).addr.0
reached_at o seen series count v level first i [] d below each = absurd (omega (arith, below))
reached_at o seen series count v level first zero (r ∷ rs) d below each = subst (λ (n : ℕ). IsReached o seen series count v level n r.addr.0) (omega arith) each.0
reached_at o seen series count v level first (suc i) (r ∷ rs) d below each =
    subst (λ (n : ℕ). IsReached o seen series count v level n (get_or rs i d).addr.0) (omega arith) (reached_at o seen series count v level (suc first) i rs d (omega (arith, below)) each.1)

-- ---- After other reads

pub reached_moved : (o p : Ordinals) (seen other : Seen) (series count : ℕ) (v : Lists) (level number at : ℕ) → o ≡ p → seen ≡ other
    → IsReached o seen series count v level number at → IsReached p other series count v level number at
reached_moved o p seen other series count v level number at same all is =
    subst (λ (s : Seen). IsReached p s series count v level number at) all (subst (λ (q : Ordinals). IsReached q seen series count v level number at) same is)

pub row_moved : (o p : Ordinals) (seen other : Seen) (series count : ℕ) (v : Lists) (level first next : ℕ) (rs ss : List Ref) → o ≡ p → seen ≡ other → first ≡ next → rs ≡ ss
    → AreReached o seen series count v level first rs → AreReached p other series count v level next ss
row_moved o p seen other series count v level first next rs ss same all number refs is =
    subst (λ (s : Seen). AreReached p s series count v level next ss) all
    (subst (λ (q : Ordinals). AreReached q seen series count v level next ss) same
    (subst (λ (n : ℕ). AreReached o seen series count v level n ss) number (subst (λ (xs : List Ref). AreReached o seen series count v level first xs) refs is)))

unspelled_moved : (o p : Ordinals) (seen other : Seen) (series count : ℕ) (v : Lists) (file block : ℕ) → o ≡ p → seen ≡ other
    → IsUnspelled o seen series count v file block → IsUnspelled p other series count v file block
unspelled_moved o p seen other series count v file block same all is =
    subst (λ (s : Seen). IsUnspelled p s series count v file block) all (subst (λ (q : Ordinals). IsUnspelled q seen series count v file block) same is)

-- why the last of more reads stops
pub stop_later : {told : Type 0} (o p : Ordinals) (seen other : Seen) (series count : ℕ) (v : Lists) (old mid new : HostState) (stop : Stop) → p ≡ o → (told → other ≡ seen) → old.disk_faults ≤ mid.disk_faults
    → IsQueryStop (λ file block. told → IsUnspelled p other series count v file block) mid new stop → IsQueryStop (λ file block. told → IsUnspelled o seen series count v file block) old new stop
stop_later o p seen other series count v old mid new stop same all later is =
    reason_weaker old mid new stop later (λ file block reason told. unspelled_moved p o other seen series count v file block same (all told) (reason told)) is

pub stops_later : {told T : Type 0} (o p : Ordinals) (seen other : Seen) (series count : ℕ) (v : Lists) (old mid new : HostState) (r : Result T Stop) → p ≡ o → (told → other ≡ seen) → old.disk_faults ≤ mid.disk_faults
    → IfErr r (IsQueryStop (λ file block. told → IsUnspelled p other series count v file block) mid new) → IfErr r (IsQueryStop (λ file block. told → IsUnspelled o seen series count v file block) old new)
stops_later o p seen other series count v old mid new (Ok x) same all later is = tt
stops_later o p seen other series count v old mid new (Err stop) same all later is = stop_later o p seen other series count v old mid new stop same all later is

-- ---- What a record names

module _ (o : Ordinals) (seen : Seen) (c : Content) (series count : ℕ) (v : Lists)
    (waits : (level : ℕ) (front : List Reference) (r : Reference) (behind : List Reference) → level ≤ 10 → waiting_of v level ≡ front ++ r ∷ behind
    → IsNamed seen o c series level (count / 32 ^ level - suc (length behind)) r.child) where
  reached_named : (level number at : ℕ) → IsReached o seen series count v level number at → IsNamed seen o c series level number at
  reached_named level number at (IsReached.waits _ front r behind top parts) = waits level front r behind top parts
  reached_named level number at (IsReached.child _ above up node front r behind reached live here parts) =
      IsNamed.child series level above up node front r behind (reached_named (suc level) above up reached) live here parts

  pub unspelled_damaged : (file block : ℕ) → IsUnspelled o seen series count v file block → IsDamagedNode seen o c file block
  unspelled_damaged file block is = record {
    series = series;
    level = is.level;
    number = is.number;
    at = is.at;
    named = reached_named is.level is.number is.at is.reached;
    live = is.live;
    file_is = is.file_is;
    block_is = is.block_is;
    none = is.none;
  }
