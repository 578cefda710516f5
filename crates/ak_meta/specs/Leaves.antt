-- New series, and leaves that are entered.
use Rattle.std.specs.Prelude.{ℕ, zero, suc, ◌+◌, ◌-◌, ◌^◌, ◌<◌, List, [], ◌∷◌, ◌++◌, drop, replicate}
use Rattle.ak_base.specs.declared.limits.Limits.{Limits}
use Rattle.ak_base.specs.declared.point.Addr.{Addr}
use Rattle.ak_levels.specs.Carries.{carry_of}
use Rattle.ak_volumes.specs.Ordinals.{Ordinals, ordinals, IsLiveOrdinal, ordinal_of, index_of, fill_of}
use Rattle.ak_meta.specs.declared.meta.SeriesMeta.{SeriesMeta}
use Rattle.ak_meta.specs.Contents.{Content, content}

-- the first view's content: ordinal 0 is live and empty, and there is no series
abbrev pub first_content : Limits → Content
first_content l = content l (ordinals l.volumes l.blocks 0 (0 ∷ [])) []

abbrev pub address_at : ℕ → Addr
address_at a = record { 0 = a }

-- a series without leaves
abbrev pub new_series : List ℕ → SeriesMeta
new_series name = record { name = name; leaves = 0; last = 0; rescue = replicate 11 (address_at (2 ^ 64 - 1)) }

abbrev pub with_series : Content → List ℕ → Content
with_series c name = record c { series = c.series ++ new_series name ∷ [] }

-- so many addresses in a row
abbrev pub addresses_from : ℕ → ℕ → List Addr
addresses_from zero a = []
addresses_from (suc count) a = address_at a ∷ addresses_from count (a + 1)

-- the levels up to this one get the addresses of a group in order
abbrev pub rescued : List Addr → ℕ → ℕ → List Addr
rescued rescue top a = addresses_from (top + 1) a ++ drop (top + 1) rescue

-- One leaf more, whose group stands at an address.
abbrev pub with_leaf : SeriesMeta → ℕ → ℕ → SeriesMeta
with_leaf s last a = record s { leaves = s.leaves + 1; last = last; rescue = rescued s.rescue (carry_of s.leaves) a }

abbrev pub with_leaf_at : List SeriesMeta → ℕ → ℕ → ℕ → List SeriesMeta
with_leaf_at [] n last a = []
with_leaf_at (s ∷ series) zero last a = with_leaf s last a ∷ series
with_leaf_at (s ∷ series) (suc n) last a = s ∷ with_leaf_at series n last a

-- the content after a leaf of a series is entered with its group at an address
abbrev pub closed_in : Content → ℕ → ℕ → ℕ → Content
closed_in c n last a = record c { series = with_leaf_at c.series n last a }

-- the leaves of a series
abbrev pub leaves_at : List SeriesMeta → ℕ → ℕ
leaves_at [] n = 0
leaves_at (s ∷ series) zero = s.leaves
leaves_at (s ∷ series) (suc n) = leaves_at series n

-- A group of a leaf and so many nodes stands at an address in the fill of a live ordinal.
pub record IsEntered (o : Ordinals) (a nodes : ℕ) : Type 0 where
  pub ordinal : IsLiveOrdinal o (ordinal_of a)
  pub index : index_of a + nodes < fill_of o (ordinal_of a)
