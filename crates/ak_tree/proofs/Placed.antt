-- What a group that is written leaves of the disk.
use Rattle.std.proofs.Common.{◌≡◌, ◌≢◌, ◌⊎◌, inl, inr, ℕ, zero, suc, ◌+◌, ◌-◌, ◌^◌, ◌<◌, ◌≤◌, ◌∙◌, List, [], ◌∷◌, ◌++◌, length, map, get_or, set, false, refl, sym, ap, subst, arith}
use Rattle.std.proofs.lemmas.Bool.{cases_eq}
use Rattle.std.proofs.lemmas.Grind.{common_steps}
use Rattle.std.proofs.lemmas.List.{length-set, length_push}
use Rattle.std.specs.Prelude.{◌%◌, slice_index, slice_index_or}
use Rattle.ak_base.specs.Points.{IsHistoryFrom, last_ts_from}
use Rattle.ak_base.specs.declared.limits.Limits.{Limits}
use Rattle.ak_base.specs.declared.point.Point.{Point}
use Rattle.ak_bytes.specs.declared.head.Head.{Head}
use Rattle.ak_host.specs.Files.{Files, file_at, block_at}
use Rattle.ak_host.specs.Moments.{HostState, DiskPasses, LeavesNow}
use Rattle.ak_host.proofs.Passing.{disk_now, disk_weaker}
use Rattle.ak_bytes.specs.Head.{IsLeafHead, IsInnerHead}
use Rattle.ak_image.specs.Blocks.{seen_in, HasVolumes}
use Rattle.ak_image.specs.Scans.{IsLeafOf}
use Rattle.ak_image.specs.Laid.{IsLaid, IsWritten, spot, rescue_in, last_in, series_in, kept_in, next_leaf, next_known}
use Rattle.ak_image.specs.Planted.{IsPlanted, ArePlanted, AreNodes}
use Rattle.ak_image.proofs.Agreeing.{laid_agree}
use Rattle.ak_image.proofs.Standing.{newest_same}
use Rattle.ak_image.proofs.StepLaid.{leaf_laid}
use Rattle.ak_leaf.specs.Leaf.{SpellsLeaf}
use Rattle.ak_levels.specs.Carries.{carry_of}
use Rattle.ak_levels.specs.Closes.{leaf_ref, closed_lists}
use Rattle.ak_levels.specs.Entries.{AreLawful}
use Rattle.ak_levels.specs.Orders.{all_below, AreInOrder}
use Rattle.ak_levels.specs.Pending.{Lists, no_lists}
use Rattle.ak_meta.specs.Contents.{Content, IsMeta}
use Rattle.ak_meta.specs.Leaves.{closed_in, leaves_at, with_leaf_at}
use Rattle.ak_meta.specs.declared.meta.SeriesMeta.{SeriesMeta}
use Rattle.ak_tree.specs.Later.{Becomes, KeepsOrigins}
use Rattle.ak_tree.specs.Storing.{IsStored, IsLeftOf}
use Rattle.ak_tree.specs.Standing.{base_of, bases_of}
use Rattle.ak_tree.specs.Writing.{IsOutside, IsGroup, LeavesOutside}
use Rattle.ak_image.proofs.Entering.{planted_group as planted_with_leaf}
use Rattle.ak_tree.proofs.Becoming.{filled_live, grown_filled, becomes_grown, becomes_closed}
use Rattle.ak_tree.proofs.Entering.{spot_entered}
use Rattle.ak_tree.proofs.Framing.{length_known}
use Rattle.ak_tree.proofs.Groups.{block_seen, group_at, nodes_written, inner_there}
use Rattle.ak_tree.proofs.Waiting.{planted_in, planted_entered}
use Rattle.ak_volumes.specs.Ordinals.{Ordinals, AreOrdinals, IsLiveOrdinal, IsLive, newest, newest_fill, address, ordinal_of, index_of, fill_of, file_of, filled}
use Rattle.ak_world.specs.Leaves.{Leaf, Series, closed_at, leaf_at}
use Rattle.ak_world.specs.Steps.{changed, entered, group_of, leaves_in, written_in}
use Rattle.ak_world.specs.Valid.{IsWorld, AreSeriesOf, kept_with}
use Rattle.ak_world.specs.Views.{View, all_known}
use Rattle.ak_world.specs.Worlds.{World, content_now, kept_now}
use Rattle.ak_world.proofs.ContentsOfLeaves.{after, after_is, leaves_known, content_closed, kept_closed}

-- ---- Live blocks

-- no two live ordinals stand in one file
one_ordinal : (o : Ordinals) (i j : ℕ) → AreOrdinals o → IsLiveOrdinal o i → IsLiveOrdinal o j → file_of o i ≡ file_of o j → i ≡ j
one_ordinal o i j are first second same = grind (arith, common_steps)

newest_live : (o : Ordinals) → AreOrdinals o → IsLiveOrdinal o (newest o)
newest_live o are = record { from = omega (arith, are.some); to = omega (arith, are.some) }

newest_is : (o : Ordinals) → AreOrdinals o → fill_of o (newest o) ≡ newest_fill o
newest_is o are =
    let e : newest o - o.lo ≡ length o.fills - 1 = omega (arith, are.some) in
    ap (λ (i : ℕ). slice_index o.fills i) e

-- each live block reads as before
pub live_same : (o : Ordinals) (group : ℕ) (old new : Files) → AreOrdinals o → IsOutside (file_of o (newest o)) (newest_fill o) group old new
    → (a : ℕ) → IsLive o a → seen_in o.volumes new a ≡ seen_in o.volumes old a
live_same o group old new are out a live = elim (cases_eq (file_of o (ordinal_of a)) (file_of o (newest o))) [
  | inl here ↦
      let same : ordinal_of a ≡ newest o = one_ordinal o (ordinal_of a) (newest o) are live.ordinal (newest_live o are) here in
      let fill : fill_of o (ordinal_of a) ≡ newest_fill o = ap (fill_of o) same ∙ newest_is o are in
      let below : index_of a < newest_fill o = subst (λ (n : ℕ). index_of a < n) fill live.index in
      subst (λ (f : ℕ). block_at new f (index_of a) ≡ block_at old f (index_of a)) (sym here) (out.below (index_of a) below)
  | inr other ↦ ap (λ (file : List (List ℕ)). slice_index_or file (index_of a) []) (out.files (file_of o (ordinal_of a)) other)
]

-- ---- The group

-- the block of a leaf of a series, as it is to stand where the next group is
abbrev pub IsLeafBlock : List ℕ → Content → ℕ → List Point → Type 0
IsLeafBlock block c n ps = (head : Head) × SpellsLeaf block head ps × (head.series ≡ n) × (head.number ≡ leaves_at c.series n) × (head.addr.0 ≡ spot c.ordinals) × (head.elder.0 ≡ rescue_in c.series n)

-- it has points, and not too many
points_of_block : (block : List ℕ) (c : Content) (n : ℕ) (ps : List Point) → IsLeafBlock block c n ps → (1 ≤ length ps) × (length ps ≤ 2016)
points_of_block block c n ps is = by is.1.head.head.kind
  where
    by : IsLeafHead is.0 ⊎ IsInnerHead is.0 → (1 ≤ length ps) × (length ps ≤ 2016)
    by (inl leaf) = (omega (arith, leaf.some, is.1.head.count), omega (arith, leaf.count, is.1.head.count))
    by (inr inner) = absurd (omega (arith, inner.kind, is.1.head.kind))

some_points : (ps : List Point) → 1 ≤ length ps → ps ≢ []
some_points [] some e = omega (arith, some)
some_points (p ∷ ps) some e = cc

-- the group of a leaf of a series was written where it is to stand, where this waited
abbrev pub IsGroupOf : Content → ℕ → List Point → Lists → List ℕ → Files → Files → Type 0
IsGroupOf c n ps u block old new = IsGroup (file_of c.ordinals (newest c.ordinals)) (newest_fill c.ordinals) (group_at c n ps) u block old new

module _ (c : Content) (n : ℕ) (ps : List Point) (rules : IsMeta c) (room : newest_fill c.ordinals + (1 + carry_of (leaves_at c.series n)) ≤ c.ordinals.blocks) where
  leaf_written : (block : List ℕ) (files : Files) → IsLeafBlock block c n ps → block_at files (file_of c.ordinals (newest c.ordinals)) (newest_fill c.ordinals) ≡ block
      → IsLeafOf (seen_in c.ordinals.volumes files) n (rescue_in c.series n) (next_leaf c n ps)
  leaf_written block files is same =
      let small : newest_fill c.ordinals < 2 ^ 32 = omega (arith, room, rules.ordinals_are.indexes) in
      let seen : seen_in c.ordinals.volumes files (spot c.ordinals) ≡ block = block_seen c.ordinals.volumes (newest c.ordinals) (newest_fill c.ordinals) files small ∙ same in
      record {
        head = is.0;
        spells = subst (λ (b : List ℕ). SpellsLeaf b is.0 ps) (sym seen) is.1;
        series_is = is.2;
        number_is = is.3;
        address_is = is.4;
        elder_is = is.5;
      }

  pub nodes_there : (block : List ℕ) (old new : Files) (u : Lists) → n < length c.series → AreLawful (leaves_at c.series n) u → IsHistoryFrom (last_in c.series n) ps → AreInOrder 0 (series_in c.series n).last (all_below u 11)
      → IsLeafBlock block c n ps → IsGroupOf c n ps u block old new → AreNodes (seen_in c.limits.volumes new) c n ps u
  nodes_there block old new u within lawful history order is group =
      let many = points_of_block block c n ps is in
      subst (λ (v : ℕ). AreNodes (seen_in v new) c n ps u) rules.volumes
      (nodes_written c n ps u rules within room lawful new (some_points ps many.0) many.1 history order group.nodes)

  pub group_written : (block : List ℕ) (old new : Files) (u : Lists) → IsLeafBlock block c n ps → IsGroupOf c n ps u block old new → AreNodes (seen_in c.limits.volumes new) c n ps u
      → IsWritten (seen_in c.limits.volumes old) (seen_in c.limits.volumes new) c n ps
  group_written block old new u is group nodes = record {
    same = subst (λ (v : ℕ). (a : ℕ) → IsLive c.ordinals a → seen_in v new a ≡ seen_in v old a) rules.volumes (live_same c.ordinals (1 + carry_of (leaves_at c.series n)) old new rules.ordinals_are group.outside);
    leaf = subst (λ (v : ℕ). IsLeafOf (seen_in v new) n (rescue_in c.series n) (next_leaf c n ps)) rules.volumes (leaf_written block new is group.block);
    inner = inner_there (seen_in c.limits.volumes new) c n ps u nodes;
  }

  -- no live block changes, and the leaf that is entered stands spelled
  pub origins_entered : (block : List ℕ) (old new : HostState) (u : Lists) (last : ℕ) → n < length c.series → IsLeafBlock block c n ps → IsGroupOf c n ps u block old.files new.files
      → KeepsOrigins old new c (closed_in (record c { ordinals = filled c.ordinals (1 + carry_of (leaves_at c.series n)) }) n last (spot c.ordinals))
  origins_entered block old new u last within is group found was =
      let o : Ordinals = c.ordinals in
      let others = carry_of (leaves_at c.series n) in
      let entered = spot_entered o others rules.ordinals_are room in
      let live : IsLive (filled o (1 + others)) (spot o) = record { ordinal = entered.ordinal; index = omega (arith, entered.index) } in
      let filled_is : Becomes (seen_in o.volumes new.files) found (record c { ordinals = filled o (1 + others) }) =
      becomes_grown (seen_in o.volumes old.files) (seen_in o.volumes new.files) found c (filled o (1 + others)) (grown_filled o (1 + others))
      (λ a was from. live_same o (1 + others) old.files new.files rules.ordinals_are group.outside a was) was in
      becomes_closed (seen_in o.volumes new.files) found (record c { ordinals = filled o (1 + others) }) n last (next_leaf c n ps) within live refl (leaf_written block new.files is group.block) filled_is

-- ---- What a stop leaves

module _ (last : View) (o : Ordinals) (group : ℕ) (are : AreOrdinals o) (volumes : last.content.limits.volumes ≡ o.volumes) (live : (a : ℕ) → IsLive last.content.ordinals a → IsLive o a) where
  same_by : (old new : Files) → IsOutside (file_of o (newest o)) (newest_fill o) group old new → (a : ℕ) → IsLive last.content.ordinals a → seen_in last.content.limits.volumes new a ≡ seen_in last.content.limits.volumes old a
  same_by old new out a by = subst (λ (v : ℕ). seen_in v new a ≡ seen_in v old a) (sym volumes) (live_same o group old new are out a (live a by))

  sizes_by : (old new : Files) (blocks most : ℕ) → IsOutside (file_of o (newest o)) (newest_fill o) group old new → HasVolumes most blocks old → HasVolumes most blocks new
  sizes_by old new blocks most out has file from to = elim (cases_eq file (file_of o (newest o))) [
    | inl here ↦
        let size : length (file_at new file) ≡ length (file_at old file) = subst (λ (f : ℕ). length (file_at new f) ≡ length (file_at old f)) (sym here) out.size in
        omega (arith, size, has file from to)
    | inr other ↦ omega (arith, ap length (out.files file other), has file from to)
  ]

  -- while it is written
  pub outside_left : (host : HostState) → ((disk : Files) → LeavesNow host disk → IsLeftOf last (file_of o (newest o)) host.files disk)
      → (disk : Files) → LeavesOutside (file_of o (newest o)) (newest_fill o) group host disk → IsLeftOf last (file_of o (newest o)) host.files disk
  outside_left host left disk from =
      let was : IsLeftOf last (file_of o (newest o)) host.files from.before = left from.before from.left in
      record {
        newest = newest_same from.before disk last.content.limits.slot last.number last.content (sym (from.outside.files 0 (λ e. omega (arith, e)))) was.newest;
        volumes = sizes_by from.before disk last.content.limits.blocks last.content.limits.volumes from.outside was.volumes;
        same = λ a by. same_by from.before disk from.outside a by ∙ was.same a by;
        still = λ other first most ne. from.outside.files other ne ∙ was.still other first most ne;
      }

  -- once it is written
  pub written_left : (old new disk : Files) → IsOutside (file_of o (newest o)) (newest_fill o) group old new → IsLeftOf last (file_of o (newest o)) old disk → IsLeftOf last (file_of o (newest o)) new disk
  written_left old new disk out was = record {
    newest = was.newest;
    volumes = was.volumes;
    same = λ a by. was.same a by ∙ sym (same_by old new out a by);
    still = λ other first most ne. was.still other first most ne ∙ sym (out.files other ne);
  }

-- ---- What is stored

-- the points of an open leaf go on from the last closed one
history_of : (opened : List SeriesMeta) (ss : List Series) (n : ℕ) → AreSeriesOf opened ss → n < length ss → IsHistoryFrom (last_in (all_known opened ss) n) (written_in ss n)
history_of opened [] n are within = absurd (omega arith)
history_of [] (s ∷ ss) zero are within = are.0.history
history_of [] (s ∷ ss) (suc n) are within = history_of [] ss n are.1 (omega arith)
history_of (o ∷ opened) (s ∷ ss) zero are within = are.0.history
history_of (o ∷ opened) (s ∷ ss) (suc n) are within = history_of opened ss n are.1 (omega arith)

-- the newest ordinal stays in its file
same_file : (o : Ordinals) (blocks : ℕ) → file_of (filled o blocks) (newest (filled o blocks)) ≡ file_of o (newest o)
same_file o blocks =
    ap (λ (n : ℕ). 1 + (o.lo + n - 1) % o.volumes) (length-set o.fills (length o.fills - 1) (newest_fill o + blocks))

-- each series has the same first leaf at the opening
base_closed : (s : Series) (a : ℕ) → base_of (closed_at s a) ≡ base_of s
base_closed s a = omega (arith, length_push s.closed (leaf_at s a))

bases_closed : (ss : List Series) (n a : ℕ) → map base_of (changed ss n (λ (s : Series). closed_at s a)) ≡ map base_of ss
bases_closed [] n a = refl
bases_closed (s ∷ ss) zero a = ap (λ (b : ℕ). b ∷ map base_of ss) (base_closed s a)
bases_closed (s ∷ ss) (suc n) a = ap (λ (l : List ℕ). base_of s ∷ l) (bases_closed ss n a)

-- a world, and a leaf of it that is closed
pub record IsClosing (v : World) (n : ℕ) : Type 0 where
  pub valid : IsWorld v
  pub fresh : v.worn ≡ false
  pub rules : IsMeta (content_now v)
  pub within : n < length v.series
  pub some : written_in v.series n ≢ []
  pub room : newest_fill v.ordinals + group_of v n ≤ v.ordinals.blocks

module _ (v : World) (n : ℕ) (is : IsClosing v n) where
  points : List Point
  points = written_in v.series n

  same_leaves : leaves_at (content_now v).series n ≡ leaves_in v.series n
  same_leaves = leaves_known v.opened.content.series v.series n is.within

  room_for : newest_fill v.ordinals + (1 + carry_of (leaves_at (content_now v).series n)) ≤ v.ordinals.blocks
  room_for = subst (λ (m : ℕ). newest_fill v.ordinals + (1 + carry_of m) ≤ v.ordinals.blocks) (sym same_leaves) is.room

  within_here : n < length (content_now v).series
  within_here = omega (arith, length_known v.opened.content.series v.series, is.within)

  history_here : IsHistoryFrom (last_in (content_now v).series n) (written_in v.series n)
  history_here = history_of v.opened.content.series v.series n is.valid.series is.within

  -- what waits once the leaf is closed
  abbrev waits : Lists → Lists
  waits u = closed_lists u (leaves_at (content_now v).series n) (leaf_ref (spot v.ordinals) (written_in v.series n))

  module _ (block : List ℕ) (old new : Files) (levels : List Lists) (leaf : IsLeafBlock block (content_now v) n (written_in v.series n))
      (group : IsGroupOf (content_now v) n (written_in v.series n) (get_or levels n no_lists) block old new) (lawful : AreLawful (leaves_at (content_now v).series n) (get_or levels n no_lists)) (long : length (get_or levels n no_lists).pending ≡ 11)
      (laid : IsLaid (seen_in (content_now v).limits.volumes old) (content_now v) (kept_now v))
      (planted : ArePlanted v.ordinals (seen_in (content_now v).limits.volumes old) 0 (content_now v).series (kept_now v) (bases_of v) levels) where
    here : (base : ℕ) × IsPlanted v.ordinals (seen_in (content_now v).limits.volumes old) n (series_in (content_now v).series n) (kept_in (kept_now v) n) base (get_or levels n no_lists)
    here = planted_in v.ordinals (seen_in (content_now v).limits.volumes old) 0 n n (content_now v).series (kept_now v) (bases_of v) levels within_here (omega arith) planted

    nodes : AreNodes (seen_in (content_now v).limits.volumes new) (content_now v) n (written_in v.series n) (get_or levels n no_lists)
    nodes = nodes_there (content_now v) n (written_in v.series n) is.rules room_for block old new (get_or levels n no_lists) within_here lawful history_here here.1.order leaf group

    written : IsWritten (seen_in (content_now v).limits.volumes old) (seen_in (content_now v).limits.volumes new) (content_now v) n (written_in v.series n)
    written = group_written (content_now v) n (written_in v.series n) is.rules room_for block old new (get_or levels n no_lists) leaf group nodes

    next_planted : (base : ℕ) → IsPlanted v.ordinals (seen_in (content_now v).limits.volumes old) n (series_in (content_now v).series n) (kept_in (kept_now v) n) base (get_or levels n no_lists)
        → IsPlanted (filled v.ordinals (1 + carry_of (leaves_at (content_now v).series n))) (seen_in (content_now v).limits.volumes new) n (next_known (content_now v) n (written_in v.series n))
        (kept_in (kept_now v) n ++ next_leaf (content_now v) n (written_in v.series n) ∷ []) base (waits (get_or levels n no_lists))
    next_planted base was =
        planted_with_leaf (seen_in (content_now v).limits.volumes old) (seen_in (content_now v).limits.volumes new) (content_now v) (kept_now v) n base (written_in v.series n) (get_or levels n no_lists) is.rules laid within_here room_for history_here
        written nodes long was

    pub laid_written : IsLaid (seen_in (content_now v).limits.volumes new)
        (closed_in (record (content_now v) { ordinals = filled v.ordinals (group_of v n) }) n (last_ts_from 0 (written_in v.series n)) (address (newest v.ordinals) (newest_fill v.ordinals)))
        (kept_with (kept_now v) n (record { number = leaves_in v.series n; address = address (newest v.ordinals) (newest_fill v.ordinals); points = written_in v.series n }))
    laid_written =
        let c : Content = content_now v in
        let ps = written_in v.series n in
        let by = leaf_laid (seen_in c.limits.volumes old) (seen_in c.limits.volumes new) c (kept_now v) n ps is.rules laid within_here room_for history_here written (next_planted here.0 here.1).grown.tree in
        subst (λ (m : ℕ). IsLaid (seen_in c.limits.volumes new) (closed_in (record c { ordinals = filled c.ordinals (1 + carry_of m) }) n (last_ts_from 0 ps) (spot c.ordinals)) (kept_with (kept_now v) n (record { number = m; address = spot c.ordinals; points = ps })))
        same_leaves by

    pub planted_written : ArePlanted (filled v.ordinals (group_of v n)) (seen_in (content_now v).limits.volumes new) 0
        (with_leaf_at (content_now v).series n (last_ts_from 0 (written_in v.series n)) (address (newest v.ordinals) (newest_fill v.ordinals)))
        (kept_with (kept_now v) n (record { number = leaves_in v.series n; address = address (newest v.ordinals) (newest_fill v.ordinals); points = written_in v.series n })) (bases_of v)
        (set levels n (waits (get_or levels n no_lists)))
    planted_written =
        let c : Content = content_now v in
        let ps = written_in v.series n in
        let blocks = 1 + carry_of (leaves_at c.series n) in
        let by = planted_entered c.ordinals (filled c.ordinals blocks) (seen_in c.limits.volumes old) (seen_in c.limits.volumes new) 0 n n (last_ts_from 0 ps) (spot c.ordinals) c.series (kept_now v) (bases_of v) levels (next_leaf c n ps)
        (waits (get_or levels n no_lists)) refl (λ a live. (filled_live c.ordinals blocks a live, written.same a live)) within_here (omega arith) next_planted planted in
        subst (λ (m : ℕ). ArePlanted (filled c.ordinals (1 + carry_of m)) (seen_in c.limits.volumes new) 0 (with_leaf_at c.series n (last_ts_from 0 ps) (spot c.ordinals)) (kept_with (kept_now v) n (record { number = m; address = spot c.ordinals; points = ps }))
        (bases_of v) (set levels n (waits (get_or levels n no_lists)))) same_leaves by

  pub stored_written : (block : List ℕ) (old new : HostState) (levels : List Lists) → IsLeafBlock block (content_now v) n (written_in v.series n)
      → IsGroupOf (content_now v) n (written_in v.series n) (get_or levels n no_lists) block old.files new.files → AreLawful (leaves_at (content_now v).series n) (get_or levels n no_lists) → length (get_or levels n no_lists).pending ≡ 11
      → DiskPasses (LeavesOutside (file_of v.ordinals (newest v.ordinals)) (newest_fill v.ordinals) (1 + carry_of (leaves_at (content_now v).series n)) old) old new
      → IsStored v.last (content_now v) (kept_now v) (bases_of v) levels (file_of v.ordinals (newest v.ordinals)) old
      → IsStored (entered v n (group_of v n)).last (content_now (entered v n (group_of v n))) (kept_now (entered v n (group_of v n))) (bases_of (entered v n (group_of v n))) (set levels n (waits (get_or levels n no_lists)))
      (file_of (entered v n (group_of v n)).ordinals (newest (entered v n (group_of v n)).ordinals)) new
  stored_written block old new levels leaf group lawful long run stored =
      let u : World = after v n (group_of v n) in
      let c : Content = content_now v in
      let o = v.ordinals in
      let blocks = 1 + carry_of (leaves_at (content_now v).series n) in
      let a = address (newest o) (newest_fill o) in
      let ps = written_in v.series n in
      let next : Leaf = record { number = leaves_in v.series n; address = a; points = ps } in
      let closed : Content = closed_in (record c { ordinals = filled o (group_of v n) }) n (last_ts_from 0 ps) a in
      let content : content_now u ≡ closed = sym (ap content_now (after_is v n (group_of v n) is.fresh)) ∙ content_closed v n is.valid is.fresh is.within is.some in
      let kept : kept_now u ≡ kept_with (kept_now v) n next = sym (ap kept_now (after_is v n (group_of v n) is.fresh)) ∙ kept_closed v n is.valid is.fresh is.within in
      let bases : bases_of u ≡ bases_of v = bases_closed v.series n a in
      let laid : IsLaid (seen_in c.limits.volumes new.files) closed (kept_with (kept_now v) n next) = laid_written block old.files new.files levels leaf group lawful long stored.laid stored.planted in
      let planted : ArePlanted closed.ordinals (seen_in c.limits.volumes new.files) 0 closed.series (kept_with (kept_now v) n next) (bases_of v) (set levels n (waits (get_or levels n no_lists))) =
      planted_written block old.files new.files levels leaf group lawful long stored.laid stored.planted in
      let volumes : v.last.content.limits.volumes ≡ o.volumes = ap (λ (l : Limits). l.volumes) is.valid.limits_are ∙ sym is.valid.volumes in
      let live = is.valid.behind.live in
      let file = file_of o (newest o) in
      let left : (disk : Files) → LeavesNow new disk → IsLeftOf v.last file old.files disk =
      disk_now (disk_weaker run (outside_left v.last o blocks is.valid.lawful volumes live old stored.left)) stored.left in
      let main : IsStored u.last (content_now u) (kept_now u) (bases_of u) (set levels n (waits (get_or levels n no_lists))) (file_of u.ordinals (newest u.ordinals)) new = record {
        rules_are = stored.rules_are;
        limits_are = stored.limits_are;
        laid = subst (λ (k : List (List Leaf)). IsLaid (seen_in c.limits.volumes new.files) (content_now u) k) (sym kept)
            (subst (λ (x : Content). IsLaid (seen_in c.limits.volumes new.files) x (kept_with (kept_now v) n next)) (sym content) laid);
        planted = subst (λ (b : List ℕ). ArePlanted u.ordinals (seen_in c.limits.volumes new.files) 0 (content_now u).series (kept_now u) b (set levels n (waits (get_or levels n no_lists)))) (sym bases)
            (subst (λ (k : List (List Leaf)). ArePlanted u.ordinals (seen_in c.limits.volumes new.files) 0 (content_now u).series k (bases_of v) (set levels n (waits (get_or levels n no_lists)))) (sym kept)
            (subst (λ (x : Content). ArePlanted x.ordinals (seen_in c.limits.volumes new.files) 0 x.series (kept_with (kept_now v) n next) (bases_of v) (set levels n (waits (get_or levels n no_lists)))) (sym content) planted));
        saved = laid_agree (seen_in c.limits.volumes old.files) (seen_in c.limits.volumes new.files) v.last.content v.last.kept stored.rules_are stored.saved
            (λ b by. subst (λ (many : ℕ). seen_in many new.files b ≡ seen_in many old.files b) is.valid.volumes (live_same o blocks old.files new.files is.valid.lawful group.outside b (live b by)));
        left = λ disk now. subst (λ (f : ℕ). IsLeftOf v.last f new.files disk) (sym (same_file o (group_of v n)))
            (written_left v.last o blocks is.valid.lawful volumes live old.files new.files disk group.outside (left disk now));
      } in
      subst (λ (x : World). IsStored x.last (content_now x) (kept_now x) (bases_of x) (set levels n (waits (get_or levels n no_lists))) (file_of x.ordinals (newest x.ordinals)) new) (sym (after_is v n (group_of v n) is.fresh)) main
