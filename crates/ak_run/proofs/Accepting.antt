-- What turns make of the points that were accepted.
use Rattle.std.proofs.Common.{◌≡◌, inl, inr, ℕ, Bool, true, false, if◌then◌else◌, List, [], ◌∷◌, Option, Some, None, refl, sym, ◌∙◌, ap, subst}
use Rattle.ak_base.proofs.Basics.{not_both}
use Rattle.ak_host.specs.Marks.{Taken, piece, ended, idle, done}
use Rattle.ak_run.specs.declared.asked.Asked.{Asked}
use Rattle.ak_run.specs.declared.asked.Asked.TheVariants.{Refused, Points, Rows, Flush}
use Rattle.ak_run.specs.Contents.{after_asked, after, after_all, given_by, given_by_all}
use Rattle.ak_run.specs.Replies.{Reply}
use Rattle.ak_run.specs.Run.{World, EndActs, OtherTurn, Gives, RunsFrom, asked_in, given_in}
use Rattle.ak_run.specs.Sessions.{stream_at}
use Rattle.ak_run.proofs.Growing.{worn_after}
use Rattle.ak_world.proofs.Accepting.{flush_stays, none_given, gains_join, put_gains}
use Rattle.ak_world.specs.Accepted.{SeriesPoints, points_under, accepted_now, accepted_of, Gains}
use Rattle.ak_world.specs.Steps.{flushed}
use Rattle.ak_world.specs.Worlds.{World as Store}

-- ---- What is asked

-- no point comes
stay : (name : List ℕ) (c d : Store) → accepted_now d ≡ accepted_now c → Gains d.worn [] (accepted_of c name) (accepted_of d name)
stay name c d same = subst (λ (all : List SeriesPoints). Gains d.worn [] (accepted_of c name) (points_under all name)) (sym same) (none_given d.worn (accepted_of c name))

asked_gains : (name : List ℕ) (c : Store) (a : Asked) → Gains (after_asked c a).worn (given_by name c a) (accepted_of c name) (accepted_of (after_asked c a) name)
asked_gains name c (Refused r) = stay name c c refl
asked_gains name c (Points names ts vs) = put_gains c names ts vs name
asked_gains name c (Rows metric) = stay name c c refl
asked_gains name c Flush = stay name c (flushed c) (flush_stays c)

after_gains : (name : List ℕ) (c : Store) (a : Asked) → Gains (after c a).worn (if c.worn then [] else given_by name c a) (accepted_of c name) (accepted_of (after c a) name)
after_gains name c a = of c.worn where
  of : (b : Bool) → Gains (if b then c else after_asked c a).worn (if b then [] else given_by name c a) (accepted_of c name) (accepted_of (if b then c else after_asked c a) name)
  of true = stay name c c refl
  of false = asked_gains name c a

-- a worn store stays as it is
worn_all : (c : Store) (xs : List Asked) → c.worn ≡ true → after_all c xs ≡ c
worn_all c [] worn = refl
worn_all c (a ∷ xs) worn = ap (λ (d : Store). after_all d xs) (worn_after c a worn) ∙ worn_all c xs worn

all_gain : (name : List ℕ) (c : Store) (xs : List Asked) → Gains (after_all c xs).worn (given_by_all name c xs) (accepted_of c name) (accepted_of (after_all c xs) name)
all_gain name c [] = stay name c c refl
all_gain name c (a ∷ xs) =
    let next : Store = after c a in
    let last : Store = after_all next xs in
    gains_join next.worn last.worn (if c.worn then [] else given_by name c a) (given_by_all name next xs) (accepted_of c name) (accepted_of next name) (accepted_of last name)
    (after_gains name c a) (all_gain name next xs)
    (λ worn. let same : last ≡ next = worn_all next xs worn in (ap (λ (d : Store). d.worn) same ∙ worn, ap (λ (d : Store). accepted_of d name) same))

-- ---- Turns

other_gains : (name : List ℕ) (world next : World) (replies told : List Reply) → OtherTurn world next replies told → Gains next.content.worn [] (accepted_of world.content name) (accepted_of next.content name)
other_gains name world next replies told o = stay name world.content next.content (ap (λ (w : World). accepted_now w.content) o.same)

end_gains : (name : List ℕ) (world next : World) (port : ℕ) (replies : List Reply) (o : Option (List ℕ)) → EndActs world port o next replies
    → Gains next.content.worn [] (accepted_of world.content name) (accepted_of next.content name)
end_gains name world next port replies None e = other_gains name world next replies [] e
end_gains name world next port replies (Some stream) e = stay name world.content next.content (ap accepted_now e.content_is)

turn_gains : (name : List ℕ) (world : World) (turn : Taken) (next : World) (replies : List Reply) → (gives : Gives world turn next replies)
    → Gains next.content.worn (given_by_all name world.content (asked_in world turn next replies gives)) (accepted_of world.content name) (accepted_of next.content name)
turn_gains name world turn next replies (inl worn) = other_gains name world next replies [] worn.1
turn_gains name world (piece port bytes) next replies (inr (sound, inl many)) = other_gains name world next replies _ many.1
turn_gains name world (piece port bytes) next replies (inr (sound, inr (few, acts))) =
    subst (λ (c : Store). Gains c.worn (given_by_all name world.content acts.gives.asked) (accepted_of world.content name) (accepted_of c name)) (sym acts.gives.next_is)
    (all_gain name world.content acts.gives.asked)
turn_gains name world (ended port) next replies (inr acts) = end_gains name world next port replies (stream_at world.sessions port) acts.1
turn_gains name world idle next replies (inr acts) = other_gains name world next replies [] acts.1
turn_gains name world done next replies (inr acts) = stay name world.content next.content (ap accepted_now acts.1.content_is ∙ flush_stays world.content)

-- once the store is worn it stays as it is
run_worn : (turns : List Taken) (world last : World) (replies : List Reply) → RunsFrom world turns last replies → world.content.worn ≡ true → last.content ≡ world.content
run_worn [] world last replies run worn = ap (λ (w : World). w.content) run.same
run_worn (turn ∷ turns) world last replies (next, first, others, inl still, run, told) worn =
    let same : next.content ≡ world.content = ap (λ (w : World). w.content) still.1.same in
    run_worn turns next last others run (ap (λ (c : Store). c.worn) same ∙ worn) ∙ same
run_worn (turn ∷ turns) world last replies (next, first, others, inr acts, run, told) worn = absurd (not_both world.content.worn worn acts.0)

pub run_gains : (name : List ℕ) (turns : List Taken) (world last : World) (replies : List Reply) → (run : RunsFrom world turns last replies)
    → Gains last.content.worn (given_in name turns world last replies run) (accepted_of world.content name) (accepted_of last.content name)
run_gains name [] world last replies run = other_gains name world last replies [] run
run_gains name (turn ∷ turns) world last replies (next, first, others, gives, run, told) =
    gains_join next.content.worn last.content.worn (given_by_all name world.content (asked_in world turn next first gives)) (given_in name turns next last others run)
    (accepted_of world.content name) (accepted_of next.content name) (accepted_of last.content name)
    (turn_gains name world turn next first gives) (run_gains name turns next last others run)
    (λ worn. let same : last.content ≡ next.content = run_worn turns next last others run worn in
    (ap (λ (c : Store). c.worn) same ∙ worn, ap (λ (c : Store). accepted_of c name) same))
