use Rattle.std.proofs.Common.{subst, refl}
use Rattle.ak_http.specs.Standing.{StandsAt}
use Rattle.ak_http.specs.declared.stage.Stage.{Stage}
use Rattle.ak_http.proofs.Heads.{body_begun}
use Rattle.ak_http.proofs.http.Http.inside.Goals as goal

pub returns-in-Body : goal.returns-in-Body
returns-in-Body c = λ row requests s f.
    let P : Stage → Type 0 = λ q. StandsAt q s.rest in
    ((λ t. body_begun _ _ s.rest (subst P c.in-Body.is (s.sound f).1)), (λ n. refl))
