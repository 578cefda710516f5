use Rattle.std.proofs.Common.{◌≡◌, ◌∙◌, not, string_bytes, ap}
use Rattle.ak_names.proofs.Keys.{any_keys, entered}
use Rattle.ak_names.proofs.joins.enter.Goals as goal

pub returns-clause-seen : goal.returns-clause-seen
returns-clause-seen c =
    let text : string_bytes c.in_ok-from_str.field-0 ≡ c.args.tags.now = c.in_ok-from_str.ensures.ok in
    entered c.in_ok-from_str.field-0 c.args.seen.now.keys c.insert_full.new.self.keys c.args.tags.now text c.in_ok-is_new.ensures.keys

pub returns-clause-new : goal.returns-clause-new
returns-clause-new c =
    let text : string_bytes c.in_ok-from_str.field-0 ≡ c.args.tags.now = c.in_ok-from_str.ensures.ok in
    c.in_ok-is_new.ensures.added ∙ ap not (any_keys c.in_ok-from_str.field-0 c.args.seen.now.keys c.args.tags.now text)
