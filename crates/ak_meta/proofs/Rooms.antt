-- Groups that are entered, and new ordinals: what they keep, and the room that they make.
use Rattle.std.proofs.Common.{◌≡◌, ℕ, zero, suc, ◌+◌, ◌-◌, ◌*◌, ◌^◌, ◌<◌, ◌≤◌, ◌∙◌, List, [], ◌∷◌, ◌++◌, length, drop, slice_set, Bool, true, false, refl, ap, arith, length-append, length-drop}
use Rattle.std.specs.Prelude.{nat_lt, slice_index, if◌then◌else◌}
use Rattle.std.proofs.lemmas.Bool.Decides.{nat_tests}
use Rattle.std.proofs.lemmas.List.{length-set, get_or-set_same}
use Rattle.std.specs.List.{AllByRecursion}
use Rattle.ak_volumes.specs.Ordinals.{Ordinals, AreOrdinals, newest, newest_fill, filled, switched}
use Rattle.ak_volumes.proofs.Switching.{AreOrdinals-switched}
use Rattle.ak_meta.specs.Contents.{Content, IsMeta, leaves_of, room_of}
use Rattle.ak_meta.proofs.Closing.{fill_most}

each_set : (b : ℕ) (xs : List ℕ) (i y : ℕ) → AllByRecursion (λ n. n ≤ b) xs → y ≤ b → AllByRecursion (λ n. n ≤ b) (slice_set xs i y)
each_set b [] i y each below = tt
each_set b (x ∷ xs) zero y each below = (below, each.1)
each_set b (x ∷ xs) (suc i) y each below = (each.0, each_set b xs i y each.1 below)

-- a group makes as much room as it has blocks
room_filled : (o : Ordinals) (group : ℕ) → 0 < length o.fills → room_of (filled o group) ≡ room_of o + group
room_filled o group some =
    let n = length o.fills - 1 in
    let fill = newest_fill o + group in
    let long : length (slice_set o.fills n fill) ≡ length o.fills = length-set o.fills n fill in
    let ordinal : newest (filled o group) ≡ newest o = ap (λ (k : ℕ). o.lo + k - 1) long in
    let place : slice_index (slice_set o.fills n fill) (length (slice_set o.fills n fill) - 1) ≡ slice_index (slice_set o.fills n fill) n = ap (λ (k : ℕ). slice_index (slice_set o.fills n fill) (k - 1)) long in
    let is : newest_fill (filled o group) ≡ fill = place ∙ get_or-set_same o.fills n fill 0 (omega (arith, some)) in
    omega (arith, is, ap (λ (q : ℕ). q * o.blocks) ordinal)

pub filled_lawful : (c : Content) (group : ℕ) → IsMeta c → newest_fill c.ordinals + group ≤ c.ordinals.blocks → IsMeta (record c { ordinals = filled c.ordinals group })
filled_lawful c group is fits =
    let o = c.ordinals in
    let are = is.ordinals_are in
    let fill = newest_fill o + group in
    let long : length (slice_set o.fills (length o.fills - 1) fill) ≡ length o.fills = length-set o.fills (length o.fills - 1) fill in
    record {
      limits_are = is.limits_are;
      volumes = is.volumes;
      blocks = is.blocks;
      ordinals_are = record {
        some = omega (arith, long, are.some);
        most = omega (arith, long, are.most);
        within = each_set o.blocks o.fills (length o.fills - 1) fill are.within fits;
        last = omega (arith, long, are.last);
        indexes = are.indexes;
      };
      full = λ old. long ∙ is.full old;
      few = is.few;
      each = is.each;
      apart = is.apart;
      total = omega (arith, room_filled o group are.some, is.total);
    }

pub filled_room : (c : Content) (group : ℕ) → IsMeta c → 1 ≤ group → newest_fill c.ordinals + group ≤ c.ordinals.blocks → leaves_of c.series < room_of (filled c.ordinals group)
filled_room c group is some fits = omega (arith, some, room_filled c.ordinals group is.ordinals_are.some, is.total)

-- all blocks of an ordinal make more room than its fill
next_room : (n m b fill : ℕ) → m ≡ n + 1 → fill ≤ b → n * b + fill ≤ m * b
next_room n m b fill is below = let all : m * b ≡ (n + 1) * b = ap (λ (k : ℕ). k * b) is in omega (arith, all, below)

abbrev next_ordinals : Ordinals → Bool → Ordinals
next_ordinals o b = if b then record o { lo = o.lo + 1; fills = drop 1 o.fills ++ 0 ∷ [] } else record o { fills = o.fills ++ 0 ∷ [] }

next_lawful : (c : Content) (b : Bool) → (b ≡ true → c.ordinals.volumes < length c.ordinals.fills + 1) → (b ≡ false → length c.ordinals.fills < c.ordinals.volumes) → IsMeta c → AreOrdinals (next_ordinals c.ordinals b) → IsMeta (record c { ordinals = next_ordinals c.ordinals b })
next_lawful c true over under is are =
    let o = c.ordinals in
    let fills : List ℕ = drop 1 o.fills ++ 0 ∷ [] in
    let old = is.ordinals_are in
    let long : length fills ≡ length o.fills = omega (arith, length-append (drop 1 o.fills) (0 ∷ []), length-drop 1 o.fills, old.some) in
    let next : o.lo + 1 + length fills - 1 ≡ newest o + 1 = omega (arith, long, old.some) in
    record {
      limits_are = is.limits_are;
      volumes = is.volumes;
      blocks = is.blocks;
      ordinals_are = are;
      full = λ some. omega (arith, long, old.most, over refl, is.volumes);
      few = is.few;
      each = is.each;
      apart = is.apart;
      total = omega (arith, is.total, next_room (newest o) (o.lo + 1 + length fills - 1) o.blocks (newest_fill o) next (fill_most o.blocks o.fills (length o.fills - 1) old.within));
    }
next_lawful c false over under is are =
    let o = c.ordinals in
    let fills : List ℕ = o.fills ++ 0 ∷ [] in
    let old = is.ordinals_are in
    let long : length fills ≡ length o.fills + 1 = length-append o.fills (0 ∷ []) in
    let next : o.lo + length fills - 1 ≡ newest o + 1 = omega (arith, long, old.some) in
    record {
      limits_are = is.limits_are;
      volumes = is.volumes;
      blocks = is.blocks;
      ordinals_are = are;
      full = λ some. absurd (omega (arith, is.full some, is.volumes, under refl));
      few = is.few;
      each = is.each;
      apart = is.apart;
      total = omega (arith, is.total, next_room (newest o) (o.lo + length fills - 1) o.blocks (newest_fill o) next (fill_most o.blocks o.fills (length o.fills - 1) old.within));
    }

pub switched_lawful : (c : Content) → IsMeta c → newest c.ordinals < 2 ^ 32 - 1 → IsMeta (record c { ordinals = switched c.ordinals })
switched_lawful c is below =
    let o = c.ordinals in
    next_lawful c (nat_lt o.volumes (length o.fills + 1)) (λ e. grind (arith, nat_tests)) (λ e. grind (arith, nat_tests)) is (AreOrdinals-switched o is.ordinals_are below)
