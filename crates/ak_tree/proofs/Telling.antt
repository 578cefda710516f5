-- Stops that tell that a store is worn.
use Rattle.std.proofs.Common.{◌≡◌, ℕ, Bool, true, Result, Ok, Err, sym, ap, subst}
use Rattle.std.specs.Prelude.{if◌then◌else◌}
use Rattle.std.specs.Result.{IsErrAnd}
use Rattle.ak_base.specs.declared.stop.Stop.{Stop}
use Rattle.ak_base.specs.declared.stop.Stop.TheVariants.{Usage, Damaged, Disk, Port, Memory, Budget, Worn, NoStore, Exists}
use Rattle.ak_tree.specs.Stops.{IsWornAt, IsWornBy, OnWorn, OnMemory}
use Rattle.ak_volumes.specs.Ordinals.{Ordinals, newest, newest_fill}
use Rattle.ak_world.specs.Steps.{unless_worn, entered}
use Rattle.ak_world.specs.Worlds.{World}
use Rattle.ak_world.proofs.ContentsOfLeaves.{after}

-- ---- What stops have

-- more of the stop
worn_by : (T : Type 0) {P Q : Stop → Type 0} (stop : Stop) → ((s : Stop) → P s → Q s) → OnWorn {T = T} (Err stop) P → OnWorn {T = T} (Err stop) Q
worn_by T (Worn ordinal fill number) follows p = follows (Worn ordinal fill number) p
worn_by T Disk follows p = tt
worn_by T Memory follows p = tt
worn_by T Usage follows p = tt
worn_by T (Damaged file block) follows p = tt
worn_by T Port follows p = tt
worn_by T Budget follows p = tt
worn_by T NoStore follows p = tt
worn_by T Exists follows p = tt

-- any of them
pub worn_here : {Q : Stop → Type 0} (stop : Stop) → ((s : Stop) → Q s) → OnWorn {T = Unit {0}} (Err stop) Q
worn_here (Worn ordinal fill number) holds = holds (Worn ordinal fill number)
worn_here Disk holds = tt
worn_here Memory holds = tt
worn_here Usage holds = tt
worn_here (Damaged file block) holds = tt
worn_here Port holds = tt
worn_here Budget holds = tt
worn_here NoStore holds = tt
worn_here Exists holds = tt

pub worn_weaker : {T : Type 0} {P Q : Stop → Type 0} (r : Result T Stop) → ((s : Stop) → P s → Q s) → OnWorn r P → OnWorn r Q
worn_weaker (Ok v) follows p = tt
worn_weaker {T = T} (Err e) follows p = worn_by T e follows p

-- what two clauses say of the stop
both_by : (T : Type 0) {P Q R : Stop → Type 0} (stop : Stop) → ((s : Stop) → P s → Q s → R s) → OnWorn {T = T} (Err stop) P → OnWorn {T = T} (Err stop) Q → OnWorn {T = T} (Err stop) R
both_by T (Worn ordinal fill number) follows p q = follows (Worn ordinal fill number) p q
both_by T Disk follows p q = tt
both_by T Memory follows p q = tt
both_by T Usage follows p q = tt
both_by T (Damaged file block) follows p q = tt
both_by T Port follows p q = tt
both_by T Budget follows p q = tt
both_by T NoStore follows p q = tt
both_by T Exists follows p q = tt

pub worn_both : {T : Type 0} {P Q R : Stop → Type 0} (r : Result T Stop) → ((s : Stop) → P s → Q s → R s) → OnWorn r P → OnWorn r Q → OnWorn r R
worn_both (Ok v) follows p q = tt
worn_both {T = T} (Err e) follows p q = both_by T e follows p q

-- where a stop is handed on
pub worn_from : {T : Type 0} {P Q : Stop → Type 0} (r : Result T Stop) (stop : Stop) → IsErrAnd r (λ e. e ≡ stop) → ((s : Stop) → P s → Q s) → OnWorn {T = T} (Err stop) P → OnWorn r Q
worn_from (Ok v) stop err follows p = absurd err
worn_from {T = T} {P = P} (Err e) stop same follows p = worn_by T e follows (subst (λ (x : Stop). OnWorn {T = T} (Err x) P) (sym same) p)

-- the same of stops for want of memory
memory_by : (T : Type 0) {P Q : Type 0} (stop : Stop) → (P → Q) → OnMemory {T = T} (Err stop) P → OnMemory {T = T} (Err stop) Q
memory_by T Memory follows p = follows p
memory_by T (Worn ordinal fill number) follows p = tt
memory_by T Disk follows p = tt
memory_by T Usage follows p = tt
memory_by T (Damaged file block) follows p = tt
memory_by T Port follows p = tt
memory_by T Budget follows p = tt
memory_by T NoStore follows p = tt
memory_by T Exists follows p = tt

pub memory_weaker : {T P Q : Type 0} (r : Result T Stop) → (P → Q) → OnMemory r P → OnMemory r Q
memory_weaker (Ok v) follows p = tt
memory_weaker {T = T} (Err e) follows p = memory_by T e follows p

pub memory_from : {T P Q : Type 0} (r : Result T Stop) (stop : Stop) → IsErrAnd r (λ e. e ≡ stop) → (P → Q) → OnMemory {T = T} (Err stop) P → OnMemory r Q
memory_from (Ok v) stop err follows p = absurd err
memory_from {T = T} {P = P} (Err e) stop same follows p = memory_by T e follows (subst (λ (x : Stop). OnMemory {T = T} (Err x) P) (sym same) p)

-- ---- Worlds

-- a worn world that this one is
pub told_same : (v u : World) (s : Stop) → (v.worn ≡ true → u ≡ v) → IsWornBy v s → IsWornBy u s
told_same v u (Worn ordinal fill number) same told = subst (λ (x : World). IsWornAt x ordinal fill number) (sym (same told.worn)) told
told_same v u Disk same told = absurd told
told_same v u Memory same told = absurd told
told_same v u Usage same told = absurd told
told_same v u (Damaged file block) same told = absurd told
told_same v u Port same told = absurd told
told_same v u Budget same told = absurd told
told_same v u NoStore same told = absurd told
told_same v u Exists same told = absurd told

-- no step follows
pub told_stays : (v : World) (step : World → World) (s : Stop) → IsWornBy v s → IsWornBy (unless_worn v step) s
told_stays v step s told = told_same v (unless_worn v step) s (λ worn. ap (λ (b : Bool). if b then v else step v) worn) told

pub told_entered : (v : World) (n blocks : ℕ) (s : Stop) → IsWornBy v s → IsWornBy (entered v n blocks) s
told_entered v n blocks s told = told_same v (entered v n blocks) s (λ worn. ap (λ (b : Bool). if b then v else after v n blocks) worn) told

-- the newest of these ordinals is told, and its fill
pub told_here : (u : World) (o : Ordinals) (number : ℕ) (s : Stop) → u.worn ≡ true → o ≡ u.ordinals → number ≡ u.last.number → s ≡ Worn (newest o) (newest_fill o) number → IsWornBy u s
told_here u o number s worn same last is =
    let at : IsWornAt u (newest o) (newest_fill o) number = record { worn = worn; ordinal_is = ap newest same; fill_is = ap newest_fill same; number_is = last } in
    subst (IsWornBy u) (sym is) at
