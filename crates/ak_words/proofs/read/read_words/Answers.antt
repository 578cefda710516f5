use Rattle.std.proofs.Common.{◌≡◌, ◌∷◌, [], ◌∙◌, ap, List, ℕ, length, take, drop, ◌-◌, rules, arith, map, string_bytes, codes, subst, IfOk}
use Rattle.ak_words.specs.declared.job.Job.{Job}
use Rattle.ak_words.proofs.Rows.{tail_is}
use Rattle.ak_words.proofs.Choices.{words_two, job_create, job_run, job_has, job_refused, none_create}
use Rattle.ak_words.proofs.read.read_words.Goals as goal

pub returns-in-Some-clause-job : goal.returns-in-Some-clause-job
returns-in-Some-clause-job c =
    let two = words_two string_bytes c.args.words.now _ c.index-words-0.result c.index-words-1.result (omega arith) (tail_is c.args.words.now 0) c.index-words-0.is c.index-words-1.is in
    let name : string_bytes c.index-words-0.result ≡ codes "create" = search rules in
    job_create _ _ _ c.in-Some.limits (two ∙ ap (λ (w : List ℕ). w ∷ string_bytes c.index-words-1.result ∷ map string_bytes (take (length c.args.words.now - 2) (drop 2 c.args.words.now))) name) c.in-Some.ensures c.job_on.result c.job_on.ensures.command (subst (λ (d : List ℕ). IfOk c.job_on.result (λ (job : Job). job.dir ≡ d)) c.as_str-dir.ensures.value c.job_on.ensures.dir) c.job_on.ensures.files

pub returns-in-Some-clause-limits : goal.returns-in-Some-clause-limits
returns-in-Some-clause-limits c = job_has (map string_bytes c.args.words.now) c.job_on.result (returns-in-Some-clause-job c)

pub returns-in-Some-clause-usage : goal.returns-in-Some-clause-usage
returns-in-Some-clause-usage c = job_refused _ c.job_on.result c.job_on.ensures.err

pub returns-in-None-clause-usage : goal.returns-in-None-clause-usage
returns-in-None-clause-usage c =
    let two = words_two string_bytes c.args.words.now _ c.index-words-0.result c.index-words-1.result (omega arith) (tail_is c.args.words.now 0) c.index-words-0.is c.index-words-1.is in
    let name : string_bytes c.index-words-0.result ≡ codes "create" = search rules in
    none_create _ _ _ (two ∙ ap (λ (w : List ℕ). w ∷ string_bytes c.index-words-1.result ∷ map string_bytes (take (length c.args.words.now - 2) (drop 2 c.args.words.now))) name) c.in-None.ensures

pub returns-then-is_empty-2-clause-job : goal.returns-then-is_empty-2-clause-job
returns-then-is_empty-2-clause-job c =
    let two = words_two string_bytes c.args.words.now _ c.index-words-0.result c.index-words-1.result (omega arith) (tail_is c.args.words.now 0) c.index-words-0.is c.index-words-1.is in
    let name : string_bytes c.index-words-0.result ≡ codes "run" = search rules in
    let rest : map string_bytes (take (length c.args.words.now - 2) (drop 2 c.args.words.now)) ≡ [] = search rules in
    job_run _ _ (two ∙ ap (λ (w : List ℕ). w ∷ string_bytes c.index-words-1.result ∷ map string_bytes (take (length c.args.words.now - 2) (drop 2 c.args.words.now))) name ∙ ap (λ (r : List (List ℕ)). codes "run" ∷ string_bytes c.index-words-1.result ∷ r) rest) c.job_on-then-is_empty-2.result c.job_on-then-is_empty-2.ensures.command (subst (λ (d : List ℕ). IfOk c.job_on-then-is_empty-2.result (λ (job : Job). job.dir ≡ d)) c.as_str-dir.ensures.value c.job_on-then-is_empty-2.ensures.dir) c.job_on-then-is_empty-2.ensures.files

pub returns-then-is_empty-2-clause-limits : goal.returns-then-is_empty-2-clause-limits
returns-then-is_empty-2-clause-limits c = job_has (map string_bytes c.args.words.now) c.job_on-then-is_empty-2.result (returns-then-is_empty-2-clause-job c)

pub returns-then-is_empty-2-clause-usage : goal.returns-then-is_empty-2-clause-usage
returns-then-is_empty-2-clause-usage c = job_refused _ c.job_on-then-is_empty-2.result c.job_on-then-is_empty-2.ensures.err
