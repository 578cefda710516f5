use Rattle.std.proofs.Common.{◌∙◌, take, sym, arith, rules}
use Rattle.std.proofs.lemmas.List.{take_all}
use mir.Syntax.{w64, w128}
use Rattle.ak_inner.specs.References.{ref_bytes}
use Rattle.ak_inner.proofs.Fields.{plain, signed_read}
use Rattle.ak_inner.proofs.reference.get_ref.Goals as goal

pub returns-clause-bytes : goal.returns-clause-bytes
unfolding ref_bytes
returns-clause-bytes c =
    let s = c.args.from.now in
    sym (take_all 104 s (omega (arith, c.requires))) ∙
    signed_read w128 16 c.get_i128.result (take 88 s) _ (take 104 s) (search rules) c.get_i128.ensures
    (plain 8 c.get_u64-7.result (take 80 s) _ (take 88 s) c.get_u64-7.ensures
    (signed_read w64 8 c.get_i64-4.result (take 72 s) _ (take 80 s) (search rules) c.get_i64-4.ensures
    (plain 8 c.get_u64-6.result (take 64 s) _ (take 72 s) c.get_u64-6.ensures
    (signed_read w64 8 c.get_i64-3.result (take 56 s) _ (take 64 s) (search rules) c.get_i64-3.ensures
    (signed_read w64 8 c.get_i64-2.result (take 48 s) _ (take 56 s) (search rules) c.get_i64-2.ensures
    (signed_read w64 8 c.get_i64.result (take 40 s) _ (take 48 s) (search rules) c.get_i64.ensures
    (plain 8 c.get_u64-5.result (take 32 s) _ (take 40 s) c.get_u64-5.ensures
    (plain 8 c.get_u64-4.result (take 24 s) _ (take 32 s) c.get_u64-4.ensures
    (plain 8 c.get_u64-3.result (take 16 s) _ (take 24 s) c.get_u64-3.ensures
    (plain 8 c.get_u64-2.result (take 8 s) _ (take 16 s) c.get_u64-2.ensures c.get_u64.ensures))))))))))
