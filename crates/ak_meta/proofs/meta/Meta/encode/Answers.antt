use Rattle.std.proofs.Common.{◌≡◌, ◌≤◌, ◌+◌, ◌*◌, ◌∙◌, List, ℕ, ◌++◌, length, map, sum, take, sym, ap, subst, arith, rules}
use Rattle.std.proofs.lemmas.List.{take_all}
use Rattle.std.specs.List.{flat_map}
use Rattle.ak_meta.specs.Contents.{Content, front_bytes, fills_bytes, series_bytes, meta_bytes, size_of}
use Rattle.ak_meta.specs.declared.meta.SeriesMeta.{SeriesMeta}
use Rattle.ak_meta.proofs.meta.Meta.encode.Goals as goal

pub returns : goal.returns
returns c =
    let m = c.self.inside in
    let new = c.put_all.new.into in
    let first : take 40 c.put_front.new.into ≡ front_bytes m.limits m.volumes.lo (length m.volumes.fills) (length m.series.items) = search rules in
    let second : take c.put_fills-end.result c.put_fills-end.new.into ≡ take 40 c.put_front.new.into ++ fills_bytes m.limits.volumes m.volumes.fills = search rules in
    let third : take c.put_all.result new ≡ take c.put_fills-end.result c.put_fills-end.new.into ++ flat_map series_bytes m.series.items = search rules in
    let end : c.put_all.result ≡ c.put_fills-end.result + sum (map (λ (s : SeriesMeta). 106 + length s.name) m.series.items) = search rules in
    let start : c.put_fills-end.result ≡ 40 + 4 * m.limits.volumes = search rules in
    let same : length new ≡ length c.args.into.now = search rules in
    let size = subst (λ (v : Content). length c.args.into.now ≡ size_of v) (sym c.self.view_is) c.requires.size in
    let all : length new ≤ c.put_all.result = omega (arith, end, start, same, size) in
    sym (take_all c.put_all.result new all)
    ∙ third
    ∙ ap (λ (l : List ℕ). l ++ flat_map series_bytes m.series.items) (second ∙ ap (λ (l : List ℕ). l ++ fills_bytes m.limits.volumes m.volumes.fills) first)
    ∙ ap meta_bytes c.self.view_is
