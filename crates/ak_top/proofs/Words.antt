-- What words ask for: one command at most.
use Rattle.std.proofs.Common.{ℕ, ◌≡◌, inl, inr, List, [], Err, refl, ap, subst}
use Rattle.ak_base.specs.declared.limits.Limits.{Limits}
use Rattle.ak_words.specs.declared.job.Command.{Command}
use Rattle.ak_words.specs.declared.job.Command.TheVariants.{Create, Run, Scratch}
use Rattle.ak_words.specs.declared.job.Job.{Job}
use Rattle.ak_words.specs.declared.job.WordsError.{WordsError}
use Rattle.ak_words.specs.declared.job.WordsError.TheVariants.{Usage}
use Rattle.ak_words.specs.Words.{Asks, IsJob, IsCommand, IsRefused}
use Rattle.ak_words.proofs.Choices.{job_one}
use Rattle.ak_top.specs.Commands.{IsRun, Creates, Makes, Serves, scratch_limits}

abbrev job_on : Command → List ℕ → Job
job_on command dir = record { command = command; dir = dir; files = [] }

abbrev asked : (words : List (List ℕ)) (command : Command) (dir : List ℕ) → Asks words command dir → IsJob words (job_on command dir)
asked words command dir asks = record { asked = asks; files = refl }

command_is : (words : List (List ℕ)) (job : Job) (command : Command) (dir : List ℕ) → IsJob words job → Asks words command dir → job.command ≡ command
command_is words job command dir is asks = ap (λ (j : Job). j.command) (job_one words job (job_on command dir) is (asked words command dir asks))

-- ---- Which command it is

pub run_is : (words : List (List ℕ)) (job : Job) → IsJob words job → IsRun words → job.command ≡ Run
run_is words job is run = command_is words job Run run.0 is run.1

pub creates_is : (words : List (List ℕ)) (job : Job) (limits : Limits) → IsJob words job → Creates words limits → job.command ≡ Create limits
creates_is words job limits is creates = command_is words job (Create limits) creates.0 is creates.1

pub scratch_is : (words : List (List ℕ)) (job : Job) → IsJob words job → words ≡ [] → job.command ≡ Scratch
scratch_is words job is none = command_is words job Scratch [] is (none, refl)

-- ---- Which words they are

pub are_run : (words : List (List ℕ)) (job : Job) → IsJob words job → job.command ≡ Run → IsRun words
are_run words job is command = (job.dir, subst (λ c. Asks words c job.dir) command is.asked)

pub are_none : (words : List (List ℕ)) (job : Job) → IsJob words job → job.command ≡ Scratch → words ≡ []
are_none words job is command = let asks = subst (λ c. Asks words c job.dir) command is.asked in asks.0

-- ---- No two at once

pub run_or_none : (words : List (List ℕ)) → IsRun words → words ≡ [] → ⊥
run_or_none words run none = let is = run.1 in cc

pub one_limits : (words : List (List ℕ)) (job : Job) (made limits : Limits) → IsJob words job → job.command ≡ Create made → Creates words limits → made ≡ limits
one_limits words job made limits is command creates = let same = creates_is words job limits is creates in cc

pub made_limits : (words : List (List ℕ)) (job : Job) (made limits : Limits) → IsJob words job → job.command ≡ Create made → Makes words limits → made ≡ limits
made_limits words job made limits is command (inl creates) = one_limits words job made limits is command creates
made_limits words job made limits is command (inr none) = let same = scratch_is words job is none.0 in cc

pub scratch_made : (words : List (List ℕ)) (job : Job) (limits : Limits) → IsJob words job → job.command ≡ Scratch → Makes words limits → limits ≡ scratch_limits
scratch_made words job limits is command (inl creates) = let same = creates_is words job limits is creates in cc
scratch_made words job limits is command (inr none) = none.1

pub run_or_made : (words : List (List ℕ)) (job : Job) (limits : Limits) → IsJob words job → job.command ≡ Run → Makes words limits → ⊥
run_or_made words job limits is command (inl creates) = let same = creates_is words job limits is creates in cc
run_or_made words job limits is command (inr none) = let same = scratch_is words job is none.0 in cc

-- ---- Each is a command

pub run_command : (words : List (List ℕ)) → IsRun words → IsCommand words
run_command words run = (job_on Run run.0, asked words Run run.0 run.1)

pub creates_command : (words : List (List ℕ)) (limits : Limits) → Creates words limits → IsCommand words
creates_command words limits creates = (job_on (Create limits) creates.0, asked words (Create limits) creates.0 creates.1)

pub none_command : (words : List (List ℕ)) → words ≡ [] → IsCommand words
none_command words none = (job_on Scratch [], asked words Scratch [] (none, refl))

pub makes_command : (words : List (List ℕ)) (limits : Limits) → Makes words limits → IsCommand words
makes_command words limits (inl creates) = creates_command words limits creates
makes_command words limits (inr none) = none_command words none.0

pub serves_command : (words : List (List ℕ)) → Serves words → IsCommand words
serves_command words (inl run) = run_command words run
serves_command words (inr none) = none_command words none

-- but for words that are refused
pub no_command : (words : List (List ℕ)) (error : WordsError) → error ≡ Usage → IsRefused words (Err error) → ¬ (IsCommand words)
no_command words error is refused = let P : WordsError → Type 0 = λ e. IsRefused words (Err e) in subst P is refused
