-- A history, and any list, read from its front.
use Rattle.std.proofs.Common.{◌≡◌, ◌+◌, ◌-◌, ◌<◌, ◌≤◌, ℕ, List, [], ◌∷◌, ◌++◌, length, take, drop, get_or, sym, ap, ◌∙◌, subst, arith, length-drop, take-append-drop}
use Rattle.std.proofs.lemmas.List.{take_more, take_rest, get_or-drop}
use Rattle.ak_base.specs.declared.point.Point.{Point}
use Rattle.ak_base.specs.Points.{IsHistory, IsHistoryFrom}

history_front : (ts : ℕ) (ps qs : List Point) → IsHistoryFrom ts (ps ++ qs) → IsHistoryFrom ts ps
history_front ts [] qs h = tt
history_front ts (p ∷ ps) qs h = (h.0, history_front p.ts ps qs h.1)

pub history_take : (ps : List Point) (n : ℕ) → IsHistory ps → IsHistory (take n ps)
history_take ps n h = history_front 0 (take n ps) (drop n ps) (subst IsHistory (sym (take-append-drop n ps)) h)

pub rest_below : {X : Type 0} (ps : List X) (i : ℕ) → i < length (take (length ps - 1) (drop 1 ps)) → i + 1 < length ps
rest_below {X} ps i h = omega (arith, subst (λ (qs : List X). i < length qs) (take_rest ps 1) h, length-drop 1 ps)

-- one item more of what follows the first
pub rest_more : {X : Type 0} (ps : List X) (i : ℕ) (d : X) → i < length (take (length ps - 1) (drop 1 ps)) → take (i + 1 + 1) ps ≡ take (i + 1) ps ++ get_or (take (length ps - 1) (drop 1 ps)) i d ∷ []
rest_more {X} ps i d h =
    let same : get_or (take (length ps - 1) (drop 1 ps)) i d ≡ get_or ps (i + 1) d =
    ap (λ (qs : List X). get_or qs i d) (take_rest ps 1) ∙ get_or-drop 1 ps i d ∙ ap (λ (n : ℕ). get_or ps n d) (omega arith) in
    take_more ps (i + 1) d (rest_below ps i h) ∙ ap (λ (p : X). take (i + 1) ps ++ p ∷ []) (sym same)

pub rest_all : {X : Type 0} (ps : List X) (i : ℕ) → 0 < length ps → length (take (length ps - 1) (drop 1 ps)) ≤ i → length ps ≤ i + 1
rest_all {X} ps i some h = omega (arith, subst (λ (qs : List X). length qs ≤ i) (take_rest ps 1) h, length-drop 1 ps)
