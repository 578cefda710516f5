use Rattle.std.proofs.Common.{◌∙◌, take, sym, arith, rules}
use Rattle.std.proofs.lemmas.List.{take_all}
use mir.Syntax.{w64, w128}
use Rattle.ak_inner.specs.References.{ref_bytes}
use Rattle.ak_inner.proofs.Fields.{plain, signed_put}
use Rattle.ak_inner.proofs.reference.put_ref.Goals as goal

pub returns : goal.returns
unfolding ref_bytes
returns c =
    let r = c.args.r in
    sym (take_all 104 c.put_i128.new.into (omega arith)) ∙
    signed_put w128 16 r.summary.sum (take 88 c.put_u64-7.new.into) _ (take 104 c.put_i128.new.into) (search rules) c.put_i128.ensures.front
    (plain 8 r.summary.max_ts (take 80 c.put_i64-4.new.into) _ (take 88 c.put_u64-7.new.into) c.put_u64-7.ensures.front
    (signed_put w64 8 r.summary.max (take 72 c.put_u64-6.new.into) _ (take 80 c.put_i64-4.new.into) (search rules) c.put_i64-4.ensures.front
    (plain 8 r.summary.min_ts (take 64 c.put_i64-3.new.into) _ (take 72 c.put_u64-6.new.into) c.put_u64-6.ensures.front
    (signed_put w64 8 r.summary.min (take 56 c.put_i64-2.new.into) _ (take 64 c.put_i64-3.new.into) (search rules) c.put_i64-3.ensures.front
    (signed_put w64 8 r.summary.last (take 48 c.put_i64.new.into) _ (take 56 c.put_i64-2.new.into) (search rules) c.put_i64-2.ensures.front
    (signed_put w64 8 r.summary.first (take 40 c.put_u64-5.new.into) _ (take 48 c.put_i64.new.into) (search rules) c.put_i64.ensures.front
    (plain 8 r.summary.end (take 32 c.put_u64-4.new.into) _ (take 40 c.put_u64-5.new.into) c.put_u64-5.ensures.front
    (plain 8 r.summary.begin (take 24 c.put_u64-3.new.into) _ (take 32 c.put_u64-4.new.into) c.put_u64-4.ensures.front
    (plain 8 r.summary.count (take 16 c.put_u64-2.new.into) _ (take 24 c.put_u64-3.new.into) c.put_u64-3.ensures.front
    (plain 8 r.first_leaf.0 (take 8 c.put_u64.new.into) _ (take 16 c.put_u64-2.new.into) c.put_u64-2.ensures.front c.put_u64.ensures.front))))))))))
