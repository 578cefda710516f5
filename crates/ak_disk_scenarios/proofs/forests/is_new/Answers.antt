use Rattle.ak_disk_scenarios.proofs.Names.{single, double, differ, none_of_one, none_of_two}
use Rattle.ak_disk_scenarios.proofs.forests.is_new.Goals as goal

pub returns-in-len1 : goal.returns-in-len1
returns-in-len1 c differs =
    none_of_one c.args.series.now c.a-item.result c.args.name.now (single c.args.series.now c.a-item.result c.in-len1.len_at_least c.in-len1.len_below c.a-item.is)
    (differ c.ne.result c.as_str.result.now c.as_str-in-len1.result.now c.args.name.now c.a-item.result.name c.ne.ensures c.as_str.ensures.value c.as_str-in-len1.ensures.value differs)

pub returns-then-ne : goal.returns-then-ne
returns-then-ne c differs =
    let a = c.a-item-then-series-lt3.result in
    let b = c.b-item.result in
    none_of_two c.args.series.now a b c.args.name.now (double c.args.series.now a b c.in-len2.len_at_least c.in-len2.len_below c.a-item-then-series-lt3.is c.b-item.is)
    (differ c.ne-in-len2.result c.as_str-in-len2.result.now c.as_str-in-len2-2.result.now c.args.name.now a.name c.ne-in-len2.ensures c.as_str-in-len2.ensures.value c.as_str-in-len2-2.ensures.value c.if-ne.true)
    (differ c.ne-then-ne.result c.as_str-then-ne.result.now c.as_str-then-ne-2.result.now c.args.name.now b.name c.ne-then-ne.ensures c.as_str-then-ne.ensures.value c.as_str-then-ne-2.ensures.value differs)
