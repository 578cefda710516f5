-- Histories, by steps and by pairs.
use Rattle.std.proofs.Common.{ℕ, ◌≤◌, List, [], ◌∷◌, ◌++◌, arith}
use Rattle.std.specs.List.{AllByRecursion}
use Rattle.ak_base.specs.declared.point.Point.{Point}
use Rattle.ak_base.specs.Points.{IsHistoryFrom, Rises, last_ts_from}

-- no point of a history is before its start
pub history_least : (ts : ℕ) (ps : List Point) → IsHistoryFrom ts ps → AllByRecursion (λ q. ts ≤ q.ts) ps
history_least ts [] h = tt
history_least ts (p ∷ ps) h = (h.0, weaker ps (history_least p.ts ps h.1))
  where
    weaker : (qs : List Point) → AllByRecursion (λ q. p.ts ≤ q.ts) qs → AllByRecursion (λ q. ts ≤ q.ts) qs
    weaker [] each = tt
    weaker (q ∷ qs) each = (omega (arith, h.0, each.0), weaker qs each.1)

pub history_rises : (ts : ℕ) (ps : List Point) → IsHistoryFrom ts ps → Rises ps
history_rises ts [] h = tt
history_rises ts (p ∷ ps) h = (history_least p.ts ps h.1, history_rises p.ts ps h.1)

pub rises_history : (ts : ℕ) (ps : List Point) → AllByRecursion (λ q. ts ≤ q.ts) ps → Rises ps → IsHistoryFrom ts ps
rises_history ts [] each rises = tt
rises_history ts (p ∷ ps) each rises = (each.0, rises_history p.ts ps rises.0 rises.1)

-- one point more
pub history_push : (ts : ℕ) (ps : List Point) (p : Point) → IsHistoryFrom ts ps → last_ts_from ts ps ≤ p.ts → IsHistoryFrom ts (ps ++ p ∷ [])
history_push ts [] p h least = (least, tt)
history_push ts (q ∷ ps) p h least = (h.0, history_push q.ts ps p h.1 least)
