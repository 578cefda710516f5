use Rattle.std.proofs.Common.{◌≡◌, ℕ, ◌+◌, ◌≤◌, ◌∙◌, sym, ap, subst, arith}
use Rattle.ak_levels.specs.Carries.{carry_of}
use Rattle.ak_levels.specs.Pending.{Lists, HasRoom, with_places}
use Rattle.ak_levels.proofs.Lists.{if_ok, either, room_made, room_kept}
use Rattle.ak_levels.proofs.levels.Levels.reserve.Goals as goal

pub returns-clause-places : goal.returns-clause-places
returns-clause-places c =
    if_ok _ _ _ (λ (e : c.place.new.self ≡ with_places c.args.self.now (c.carry.result + 1)). e ∙ ap (λ (n : ℕ). with_places c.args.self.now (n + 1)) c.carry.ensures.carry) c.place.ensures.places

pub returns-clause-room : goal.returns-clause-room
returns-clause-room c =
    let room : c.place.new.self ≡ with_places c.args.self.now (carry_of c.args.m + 1) → (k : ℕ) → k ≤ carry_of c.args.m → HasRoom c.place.new.self k =
    λ e k few. subst (λ (v : Lists). HasRoom v k) (sym e) (room_made c.args.self.now (carry_of c.args.m + 1) k (omega (arith, few)) (c.requires.free k few)) in
    if_ok _ _ _ room (returns-clause-places c)

pub returns-clause-kept : goal.returns-clause-kept
returns-clause-kept c k room =
    either _ _ _ _
    (λ (e : c.place.new.self ≡ with_places c.args.self.now (carry_of c.args.m + 1)). subst (λ (v : Lists). HasRoom v k) (sym e) (room_kept c.args.self.now (carry_of c.args.m + 1) k room))
    (λ (e : c.place.new.self ≡ c.args.self.now). subst (λ (v : Lists). HasRoom v k) (sym e) room)
    (returns-clause-places c) c.place.ensures.error

pub returns-clause-pending : goal.returns-clause-pending
returns-clause-pending c =
    either _ _ _ _
    (λ (e : c.place.new.self ≡ with_places c.args.self.now (carry_of c.args.m + 1)). ap (λ (v : Lists). v.pending) e)
    (λ (e : c.place.new.self ≡ c.args.self.now). ap (λ (v : Lists). v.pending) e)
    (returns-clause-places c) c.place.ensures.error
