use Rattle.std.proofs.Common.{◌≡◌, ℕ, ◌<◌, pos, inr, List, length, refl, sym, ap, subst, ◌∙◌, rules, arith}
use Rattle.ak_time.specs.Calendar.{IsShown, moment}
use Rattle.ak_time.specs.Times.{IsCivilText, IsCivilTime, ReadsTime, parts_of}
use Rattle.ak_time.proofs.Readings.{reads_civil}
use Rattle.ak_time.proofs.Shapes.{built, built_shows, moment_injective, text_injective}
use Rattle.ak_time.proofs.Dates.{iso_text_reads}
use Rattle.ak_time.specs.Dates.{iso_text}
use Rattle.ak_time.proofs.text.iso.Goals as goal

text_of : goal.After-nine-n → List ℕ
text_of c = built c.four-y.result c.two-mo.result c.two-d.result c.two-h.result c.two-mi.result c.two-s.result c.nine-n.result

shows : (c : goal.After-nine-n) → IsCivilText (text_of c) × (parts_of (text_of c) ≡ c.parts_at-p.result)
unfolding text_of
shows c = built_shows c.four-y.result c.two-mo.result c.two-d.result c.two-h.result c.two-mi.result c.two-s.result c.nine-n.result c.parts_at-p.result
    (search rules) (search rules) (search rules) (search rules) (search rules) (search rules) (search rules)
    c.four-y.ensures.digits c.two-mo.ensures.digits c.two-d.ensures.digits c.two-h.ensures.digits c.two-mi.ensures.digits c.two-s.ensures.digits c.nine-n.ensures.digits
    c.four-y.ensures.value c.two-mo.ensures.value c.two-d.ensures.value c.two-h.ensures.value c.two-mi.ensures.value c.two-s.ensures.value c.nine-n.ensures.value

civil : (c : goal.After-nine-n) → IsCivilTime (text_of c)
civil c = ((shows c).0, subst IsShown (sym (shows c).1) c.parts_at-p.ensures.shown)

same_moment : (c : goal.After-nine-n) → moment (parts_of (text_of c)) ≡ pos c.args.ts
same_moment c = ap moment (shows c).1 ∙ c.parts_at-p.ensures.moment

only : (c : goal.After-nine-n) (text : List ℕ) → length text ≡ 25 → IsCivilTime text → ReadsTime text (pos c.args.ts) → text ≡ text_of c
unfolding text_of
only c text long shape reads =
    let inside : 8 < length text = omega arith in
    let there = ((reads_civil text inside shape.0.mark (pos c.args.ts)).0 reads).1 in
    text_injective text (text_of c) long refl shape.0 (shows c).0 (moment_injective (parts_of text) (parts_of (text_of c)) shape.1 (civil c).1 (there ∙ sym (same_moment c)))

pub returns-clause-civil : goal.returns-clause-civil
unfolding text_of
returns-clause-civil c = civil c

pub returns-clause-reads : goal.returns-clause-reads
unfolding text_of
returns-clause-reads c = inr (civil c, same_moment c)

pub returns-clause-one : goal.returns-clause-one
unfolding text_of
returns-clause-one c = only c

pub returns-clause-text : goal.returns-clause-text
unfolding text_of
returns-clause-text c =
    let reads = iso_text_reads c.args.ts (omega (arith, c.ranges.ts.fits)) in
    sym (only c (iso_text c.args.ts) reads.0 reads.1 reads.2)
