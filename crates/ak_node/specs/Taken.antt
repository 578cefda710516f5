-- Puts that stand whole in a piece, each of one point of a known series.
use Rattle.std.specs.Prelude.{ℕ, ◌≡◌, ◌+◌, ◌<◌, ◌≤◌, ◌++◌, List, [], ◌∷◌, length, take, Some, IfSome, false}
use Rattle.ak_names.specs.Names.{DoesName}
use Rattle.ak_resp.specs.declared.message.Message.{Message}
use Rattle.ak_resp.specs.declared.resp.Resp.{Resp}
use Rattle.ak_resp.specs.Standing.{StandsFor, is_faulted, passed}
use Rattle.ak_run.specs.declared.asked.Asked.TheVariants.{Points}
use Rattle.ak_run.specs.Asking.{Asks}
use Rattle.ak_tree.specs.Standing.{Trees, last_known}
use Rattle.ak_node.specs.declared.keeper.Keeper.{Keeper}
use Rattle.ak_node.specs.declared.taken.KnownPut.{KnownPut}
use Rattle.ak_node.specs.Names.{place_in}

-- the text names one series, which stands in this place among those known
pub record NamesOne (known : List (List ℕ)) (text : List ℕ) (series : ℕ) : Type 0 where
  pub name : List ℕ
  pub place : place_in known name ≡ Some series
  pub named : DoesName text (name ∷ [])

-- no point of the series is behind this time
abbrev pub IsInTime : Trees → ℕ → ℕ → Type 0
IsInTime f series time = IfSome (last_known f series) (λ last. last ≤ time)

-- So many bytes of the piece, from a place on, spell a message that the reader reads there, which asks for this point of a known
-- series, and the series takes points of its time.
pub record IsKnownPut (keeper : Keeper) (reader : Resp) (piece : List ℕ) (at : ℕ) (known : KnownPut) : Type 0 where
  pub within : at + known.length ≤ length piece
  pub some : 0 < known.length
  pub sound : is_faulted reader ≡ false
  pub series : known.series < length keeper.names
  pub in_time : IsInTime keeper.forest known.series known.point.ts
  pub message : Message
  pub stands : (row : List ℕ) (messages : List Message) → StandsFor reader (row ++ take at piece) messages
      → StandsFor (passed reader known.length) (row ++ take (at + known.length) piece) (messages ++ message ∷ [])
  pub name : List ℕ
  pub place : place_in keeper.names name ≡ Some known.series
  pub asks : Asks keeper.forest.meta.limits.scale message (Points (name ∷ []) known.point.ts (known.point.value ∷ []))
