use Rattle.ak_run.proofs.Puts.{named_put, unnamed_put}
use Rattle.ak_run.proofs.asking.ask_put.Goals as goal

pub returns-in-Ok : goal.returns-in-Ok
returns-in-Ok c = named_put (λ v. v.bytes) c.args.scale c.args.name.now c.args.time.now c.args.values.now c.metrics.result c.in-Ok.names c.ask_named.result c.if-values-metrics.false c.metrics.ensures c.in-Ok.ensures.ok c.ask_named.ensures

pub returns-in-Err-Bad : goal.returns-in-Err-Bad
returns-in-Err-Bad c = unnamed_put (λ v. v.bytes) c.args.scale c.args.name.now c.args.time.now c.args.values.now c.metrics.result c.if-values-metrics.false c.metrics.ensures (λ names h. c.in-Err-Bad.ensures.bad c.in-Err-Bad.field-0-is names h)
