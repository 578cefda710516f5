-- What calls leave of what is kept.
use Rattle.std.proofs.Common.{◌≡◌, ◌∙◌, ◌≤◌, ◌<◌, ◌⊎◌, inl, inr, ℕ, zero, suc, Bool, true, false, ◌&&◌, ◌||◌, not, if◌then◌else◌, ◌==◌, List, [], ◌∷◌, ◌++◌, length, map, get_or, slice_set, refl, sym, ap, ap₂, subst, subst₂, true≢false, arith}
use Rattle.std.specs.Option.{unwrap_or, option_map}
use Rattle.std.specs.Prelude.{Some, Result, Ok, Err, OnOk, OnErr}
use Rattle.std.specs.Result.{is_ok}
use Rattle.std.specs.Cmp.{unsigned_Decides}
use Rattle.std.proofs.lemmas.List.{append_assoc}
use Rattle.std.proofs.lemmas.Option.{slice_get-map, slice_get_within, unwrap_or-slice_get}
use Rattle.std.specs.List.{list_any, slice_get}
use Rattle.std.specs.declared.io.Error.{Error}
use Rattle.std.proofs.lemmas.List.Folds.{list_any-append}
use Rattle.std.proofs.Math.Bool.{or-false}
use Rattle.std.proofs.lemmas.Bool.Decides.{nat_tests}
use Rattle.ak_host.specs.Files.{with_item}
use Rattle.akl.specs.declared.real.directory.Opened.{Opened}
use Rattle.akl.specs.declared.real.system.SystemCall.{SystemCall}
use Rattle.akl.specs.declared.real.system.SystemCall.TheVariants.{OwnNameSynced, NamesSynced, Zeroed, ZerosSynced, Renamed, Synced, Dropped, Read}
use Rattle.akl.specs.Calls.{Calls, noted, has_done, has_failed, is_own_name_synced, is_names_synced, is_renamed, is_synced, is_dropped, are_names_settled, is_settled, is_in_doubt, settling, zeroing, HasFailedToSettle, IsReadSettled}
use Rattle.akl.specs.Opens.{Opens, is_marked, is_refused, settles, refuses, given_up, with_mark, marked, IsKept}

any_noted : {X : Type 0} (p : X → Bool) (xs : List X) (x : X) → list_any p (xs ++ x ∷ []) ≡ (list_any p xs || p x)
any_noted p xs x = list_any-append p xs (x ∷ []) ∙ ap (λ b. list_any p xs || b) (or-false (p x))

or_left : (a b : Bool) → a ≡ true → (a || b) ≡ true
or_left true b h = refl
or_left false b h = absurd (true≢false (sym h))

or_right : (a b : Bool) → b ≡ true → (a || b) ≡ true
or_right true b h = refl
or_right false b h = h

or_mono : (a b c d : Bool) → (a ≡ true → c ≡ true) → (b ≡ true → d ≡ true) → (a || b) ≡ true → (c || d) ≡ true
or_mono true b c d f g h = or_left c d (f refl)
or_mono false b c d f g h = or_right c d (g h)

and_mono : (a b c d : Bool) → (a ≡ true → c ≡ true) → (b ≡ true → d ≡ true) → (a && b) ≡ true → (c && d) ≡ true
and_mono true b c d f g h = ap₂ (λ x y. x && y) (f refl) (g h)
and_mono false b c d f g h = absurd (true≢false (sym h))

if_mono : (t a b c d : Bool) → (a ≡ true → c ≡ true) → (b ≡ true → d ≡ true) → (if t then a else b) ≡ true → (if t then c else d) ≡ true
if_mono true a b c d f g h = f h
if_mono false a b c d f g h = g h

pub given_up_set : (files : Opens) (file : ℕ) (cause : Error) → file < length files → slice_set files file (Err cause) ≡ given_up files file cause
given_up_set [] file cause within = absurd (omega (arith, within))
given_up_set (x ∷ files) zero cause within = refl
given_up_set (x ∷ files) (suc file) cause within = ap (λ xs. x ∷ xs) (given_up_set files file cause (omega (arith, within)))

pub given_up_past : (files : Opens) (file : ℕ) (cause : Error) → length files ≤ file → files ≡ given_up files file cause
given_up_past [] file cause past = refl
given_up_past (x ∷ files) zero cause past = absurd (omega (arith, past))
given_up_past (x ∷ files) (suc file) cause past = ap (λ xs. x ∷ xs) (given_up_past files file cause (omega (arith, past)))

-- what was done stays done
done_more : (test : SystemCall → Bool) (calls : Calls) (call : SystemCall) (ok : Bool) → has_done test calls ≡ true → has_done test (noted calls call ok) ≡ true
unfolding has_done
done_more test calls call ok h = any_noted _ calls (call, ok) ∙ or_left _ _ h

pub done_now : (test : SystemCall → Bool) (calls : Calls) (call : SystemCall) → test call ≡ true → has_done test (noted calls call true) ≡ true
unfolding has_done
done_now test calls call h = any_noted _ calls (call, true) ∙ or_right _ _ h

-- a call that didn't fail, or isn't meant
failed_same : (test : SystemCall → Bool) (calls : Calls) (call : SystemCall) (ok : Bool) → (not ok && test call) ≡ false → has_failed test (noted calls call ok) ≡ has_failed test calls
unfolding has_failed
failed_same test calls call ok h = any_noted _ calls (call, ok) ∙ ap (λ b. has_failed test calls || b) h ∙ or-false _

pub names_more : (calls : Calls) (call : SystemCall) (ok : Bool) → are_names_settled calls ≡ true → are_names_settled (noted calls call ok) ≡ true
names_more calls call ok h = and_mono _ _ _ _ (done_more is_own_name_synced calls call ok) (done_more is_names_synced calls call ok) h

pub names_now : (calls : Calls) → are_names_settled (noted (noted calls OwnNameSynced true) NamesSynced true) ≡ true
names_now calls =
    ap₂ (λ x y. x && y)
    (done_more is_own_name_synced _ NamesSynced true (done_now is_own_name_synced calls OwnNameSynced refl))
    (done_now is_names_synced _ NamesSynced refl)

pub settled_more : (file : ℕ) (calls : Calls) (call : SystemCall) (ok : Bool) → is_settled file calls ≡ true → is_settled file (noted calls call ok) ≡ true
settled_more file calls call ok h =
    or_mono _ _ _ _ (done_more (is_renamed file) calls call ok)
    (if_mono (file == 0) _ _ _ _ (done_more (is_dropped file) calls call ok) (done_more (is_synced file) calls call ok)) h

-- a call that leaves no file in doubt
abbrev pub IsSure : SystemCall → Bool → Type 0
IsSure call ok = (file : ℕ) → ((not ok && is_synced file call) ≡ false) × ((not ok && is_dropped file call) ≡ false)

sure_done : (call : SystemCall) → IsSure call true
sure_done call file = (refl, refl)

-- a call that no file is synced by
abbrev pub IsOther : SystemCall → Type 0
IsOther call = (file : ℕ) → (is_synced file call ≡ false) × (is_dropped file call ≡ false)

sure_other : (call : SystemCall) (ok : Bool) → IsOther call → IsSure call ok
sure_other call true other file = (refl, refl)
sure_other call false other file = other file

doubt_same : (file : ℕ) (calls : Calls) (call : SystemCall) (ok : Bool) → IsSure call ok → is_in_doubt file (noted calls call ok) ≡ is_in_doubt file calls
doubt_same file calls call ok sure =
    ap₂ (λ a b. a || b) (failed_same (is_synced file) calls call ok (sure file).0) (failed_same (is_dropped file) calls call ok (sure file).1)

-- no file, and no call
pub kept_new : (files : Opens) (calls : Calls) → files ≡ [] → calls ≡ [] → IsKept false files calls
unfolding has_failed
kept_new files calls no_files no_calls = subst₂ (IsKept false) (sym no_files) (sym no_calls) (record {
  names = λ h. absurd (true≢false (sym h));
  marks = λ file h. absurd (true≢false (sym h));
  doubts = λ file h. absurd (true≢false (sym h));
})

kept_noted : (settled : Bool) (files : Opens) (calls : Calls) (call : SystemCall) (ok : Bool) → IsSure call ok → IsKept settled files calls → IsKept settled files (noted calls call ok)
kept_noted settled files calls call ok sure kept = record {
  names = λ h. names_more calls call ok (kept.names h);
  marks = λ file h. settled_more file calls call ok (kept.marks file h);
  doubts = λ file h. kept.doubts file (sym (doubt_same file calls call ok sure) ∙ h);
}

pub kept_done : (settled : Bool) (files : Opens) (calls : Calls) (call : SystemCall) → IsKept settled files calls → IsKept settled files (noted calls call true)
kept_done settled files calls call kept = kept_noted settled files calls call true (sure_done call) kept

pub kept_other : (settled : Bool) (files : Opens) (calls : Calls) (call : SystemCall) (ok : Bool) → IsOther call → IsKept settled files calls → IsKept settled files (noted calls call ok)
kept_other settled files calls call ok other kept = kept_noted settled files calls call ok (sure_other call ok other) kept

-- where the names have just been settled
pub kept_names : (settled : Bool) (files : Opens) (calls : Calls) → are_names_settled calls ≡ true → IsKept settled files calls → IsKept true files calls
kept_names settled files calls names kept = record {
  names = λ h. names;
  marks = kept.marks;
  doubts = kept.doubts;
}

pub marked_set : (files : Opens) (file : ℕ) (x : Result Opened Error) → file < length files → get_or files file x ≡ x → slice_set files file (with_mark x) ≡ marked files file
marked_set [] file x within here = absurd (omega (arith, within))
marked_set (y ∷ files) zero x within here = ap (λ z. with_mark z ∷ files) (sym here)
marked_set (y ∷ files) (suc file) x within here = ap (λ xs. y ∷ xs) (marked_set files file x (omega (arith, within)) here)

pub marked_past : (files : Opens) (file : ℕ) → length files ≤ file → files ≡ marked files file
marked_past [] file past = refl
marked_past (x ∷ files) zero past = absurd (omega (arith, past))
marked_past (x ∷ files) (suc file) past = ap (λ xs. x ∷ xs) (marked_past files file (omega (arith, past)))

pub with_mark_err : (x : Result Opened Error) → ((opened : Opened) → x ≡ Ok opened → ⊥) → x ≡ with_mark x
with_mark_err (Ok opened) not_ok = absurd (not_ok opened refl)
with_mark_err (Err cause) not_ok = refl

marked_at : (files : Opens) (file f : ℕ) → is_marked (marked files file) f ≡ true → (is_marked files f ≡ true) ⊎ (f ≡ file)
marked_at [] file f h = inl h
marked_at (x ∷ files) zero zero h = inr refl
marked_at (x ∷ files) zero (suc f) h = inl h
marked_at (x ∷ files) (suc file) zero h = inl h
marked_at (x ∷ files) (suc file) (suc f) h = elim (marked_at files file f h) [ inl a ↦ inl a | inr e ↦ inr (ap suc e) ]

refused_marked : (files : Opens) (file f : ℕ) → is_refused (marked files file) f ≡ is_refused files f
refused_marked [] file f = refl
refused_marked (Ok x ∷ files) zero zero = refl
refused_marked (Err x ∷ files) zero zero = refl
refused_marked (x ∷ files) zero (suc f) = refl
refused_marked (x ∷ files) (suc file) zero = refl
refused_marked (x ∷ files) (suc file) (suc f) = refused_marked files file f

-- where the file has just been settled
pub kept_marked : (settled : Bool) (files : Opens) (calls : Calls) (file : ℕ) → is_settled file calls ≡ true → IsKept settled files calls → IsKept settled (marked files file) calls
kept_marked settled files calls file done kept = record {
  names = kept.names;
  marks = λ f h. elim (marked_at files file f h) [ inl a ↦ kept.marks f a | inr e ↦ subst (λ n. is_settled n calls ≡ true) (sym e) done ];
  doubts = λ f h. refused_marked files file f ∙ kept.doubts f h;
}

get_or_map : (v : Result Opened Error → Bool) (files : Opens) (file : ℕ) (x : Result Opened Error) → slice_get files file ≡ Some x → get_or (map v files) file false ≡ v x
get_or_map v files file x h = sym (unwrap_or-slice_get (map v files) file false) ∙ ap (λ o. unwrap_or o false) (slice_get-map v files file ∙ ap (option_map v) h)

pub marked_here : (files : Opens) (file : ℕ) (opened : Opened) → slice_get files file ≡ Some (Ok opened) → opened.settled ≡ true → is_marked files file ≡ true
marked_here files file opened h settled = get_or_map settles files file (Ok opened) h ∙ settled

usable_here : (files : Opens) (file : ℕ) (opened : Opened) → slice_get files file ≡ Some (Ok opened) → is_refused files file ≡ false
usable_here files file opened h = get_or_map refuses files file (Ok opened) h

marked_usable : (files : Opens) (file : ℕ) → file < length files → is_refused files file ≡ false → is_marked (marked files file) file ≡ true
marked_usable [] file within usable = absurd (omega (arith, within))
marked_usable (Ok x ∷ files) zero within usable = refl
marked_usable (Err x ∷ files) zero within usable = absurd (true≢false usable)
marked_usable (x ∷ files) (suc file) within usable = marked_usable files file (omega (arith, within)) usable

pub marked_now : (files : Opens) (file : ℕ) (opened : Opened) → slice_get files file ≡ Some (Ok opened) → is_marked (marked files file) file ≡ true
marked_now files file opened h = marked_usable files file (slice_get_within files file _ h) (usable_here files file opened h)

not_both : (b : Bool) → (b ≡ true → ⊥) → b ≡ false
not_both true h = absurd (h refl)
not_both false h = refl

pub certain_usable : (settled : Bool) (files : Opens) (calls : Calls) (file : ℕ) → IsKept settled files calls → is_refused files file ≡ false → is_in_doubt file calls ≡ false
certain_usable settled files calls file kept usable = not_both _ (λ h. true≢false (sym (kept.doubts file h) ∙ usable))

marked_is_usable : (files : Opens) (file : ℕ) → is_marked files file ≡ true → is_refused files file ≡ false
marked_is_usable [] file h = refl
marked_is_usable (Ok x ∷ files) zero h = refl
marked_is_usable (Err x ∷ files) zero h = absurd (true≢false (sym h))
marked_is_usable (x ∷ files) (suc file) h = marked_is_usable files file h

pub certain_marked : (settled : Bool) (files : Opens) (calls : Calls) (file : ℕ) → IsKept settled files calls → is_marked files file ≡ true → is_in_doubt file calls ≡ false
certain_marked settled files calls file kept h = certain_usable settled files calls file kept (marked_is_usable files file h)

pub certain_done : (file : ℕ) (calls : Calls) (call : SystemCall) → is_in_doubt file calls ≡ false → is_in_doubt file (noted calls call true) ≡ false
certain_done file calls call h = doubt_same file calls call true (sure_done call) ∙ h

same_test : (n : ℕ) → (n == n) ≡ true
same_test n = (unsigned_Decides n n).1 refl

settling_meta : (file : ℕ) → (file == 0) ≡ true → settling file ≡ (Synced file, true) ∷ (Dropped file, true) ∷ []
settling_meta file h = ap (λ (b : Bool). if b then (Synced file, true) ∷ (Dropped file, true) ∷ [] else (Synced file, true) ∷ []) h

settling_volume : (file : ℕ) → (file == 0) ≡ false → settling file ≡ (Synced file, true) ∷ []
settling_volume file h = ap (λ (b : Bool). if b then (Synced file, true) ∷ (Dropped file, true) ∷ [] else (Synced file, true) ∷ []) h

if_then : (b c d : Bool) → b ≡ true → c ≡ true → (if b then c else d) ≡ true
if_then b c d h i = ap (λ (t : Bool). if t then c else d) h ∙ i

if_else : (b c d : Bool) → b ≡ false → d ≡ true → (if b then c else d) ≡ true
if_else b c d h i = ap (λ (t : Bool). if t then c else d) h ∙ i

kept_settled_as : (settled : Bool) (files : Opens) (calls : Calls) (file : ℕ) (b : Bool) → (file == 0) ≡ b → IsKept settled files calls → IsKept settled (marked files file) (calls ++ settling file)
kept_settled_as settled files calls file true h kept =
    let two : calls ++ settling file ≡ noted (noted calls (Synced file) true) (Dropped file) true = ap (λ l. calls ++ l) (settling_meta file h) ∙ sym (append_assoc calls ((Synced file, true) ∷ []) ((Dropped file, true) ∷ [])) in
    let after = noted (noted calls (Synced file) true) (Dropped file) true in
    subst (λ new. IsKept settled (marked files file) new) (sym two)
    (kept_marked settled files after file (or_right (has_done (is_renamed file) after) _ (if_then (file == 0) (has_done (is_dropped file) after) (has_done (is_synced file) after) h (done_now (is_dropped file) _ (Dropped file) (same_test file))))
    (kept_done settled files _ (Dropped file) (kept_done settled files calls (Synced file) kept)))
kept_settled_as settled files calls file false h kept =
    let one : calls ++ settling file ≡ noted calls (Synced file) true = ap (λ l. calls ++ l) (settling_volume file h) in
    let after = noted calls (Synced file) true in
    subst (λ new. IsKept settled (marked files file) new) (sym one)
    (kept_marked settled files after file (or_right (has_done (is_renamed file) after) _ (if_else (file == 0) (has_done (is_dropped file) after) (has_done (is_synced file) after) h (done_now (is_synced file) _ (Synced file) (same_test file))))
    (kept_done settled files calls (Synced file) kept))

-- a file that was open, and has just been settled
pub kept_settled : (settled : Bool) (files : Opens) (calls : Calls) (file : ℕ) → IsKept settled files calls → IsKept settled (marked files file) (calls ++ settling file)
kept_settled settled files calls file kept = kept_settled_as settled files calls file (file == 0) refl kept

marked_given_up : (files : Opens) (file f : ℕ) (cause : Error) → is_marked (given_up files file cause) f ≡ true → is_marked files f ≡ true
marked_given_up [] file f cause h = h
marked_given_up (x ∷ files) zero zero cause h = absurd (true≢false (sym h))
marked_given_up (x ∷ files) zero (suc f) cause h = h
marked_given_up (x ∷ files) (suc file) zero cause h = h
marked_given_up (x ∷ files) (suc file) (suc f) cause h = marked_given_up files file f cause h

refused_given_up : (files : Opens) (file f : ℕ) (cause : Error) → is_refused files f ≡ true → is_refused (given_up files file cause) f ≡ true
refused_given_up [] file f cause h = h
refused_given_up (x ∷ files) zero zero cause h = refl
refused_given_up (x ∷ files) zero (suc f) cause h = h
refused_given_up (x ∷ files) (suc file) zero cause h = h
refused_given_up (x ∷ files) (suc file) (suc f) cause h = refused_given_up files file f cause h

refused_now : (files : Opens) (file : ℕ) (cause : Error) → file < length files → is_refused (given_up files file cause) file ≡ true
refused_now [] file cause h = absurd (omega (arith, h))
refused_now (x ∷ files) zero cause h = refl
refused_now (x ∷ files) (suc file) cause h = refused_now files file cause (omega (arith, h))

-- a file that is given up
pub kept_given_up : (settled : Bool) (files : Opens) (calls : Calls) (file : ℕ) (cause : Error) → IsKept settled files calls → IsKept settled (given_up files file cause) calls
kept_given_up settled files calls file cause kept = record {
  names = kept.names;
  marks = λ f h. kept.marks f (marked_given_up files file f cause h);
  doubts = λ f h. refused_given_up files file f cause (kept.doubts f h);
}

or_cases : (a b : Bool) → (a || b) ≡ true → (a ≡ true) ⊎ (b ≡ true)
or_cases true b h = inl refl
or_cases false b h = inr h

failed_now : (test : SystemCall → Bool) (calls : Calls) (call : SystemCall) → has_failed test (noted calls call false) ≡ true → (has_failed test calls ≡ true) ⊎ (test call ≡ true)
unfolding has_failed
failed_now test calls call h = or_cases _ _ (sym (any_noted _ calls (call, false)) ∙ h)

-- a call on this file alone
abbrev pub IsOf : ℕ → SystemCall → Type 0
IsOf file call = (f : ℕ) → (is_synced f call ≡ true → f ≡ file) × (is_dropped f call ≡ true → f ≡ file)

doubt_now : (file f : ℕ) (calls : Calls) (call : SystemCall) → IsOf file call → is_in_doubt f (noted calls call false) ≡ true → (is_in_doubt f calls ≡ true) ⊎ (f ≡ file)
doubt_now file f calls call of h =
    elim (or_cases _ _ h) [
      | inl a ↦ elim (failed_now (is_synced f) calls call a) [ inl b ↦ inl (or_left _ _ b) | inr b ↦ inr ((of f).0 b) ]
      | inr a ↦ elim (failed_now (is_dropped f) calls call a) [ inl b ↦ inl (or_right _ _ b) | inr b ↦ inr ((of f).1 b) ]
    ]

pub synced_is_of : (file : ℕ) (f : ℕ) → (is_synced f (Synced file) ≡ true → f ≡ file) × (is_dropped f (Synced file) ≡ true → f ≡ file)
synced_is_of file f = ((λ h. grind (arith, nat_tests, h)), (λ h. absurd (true≢false (sym h))))

pub dropped_is_of : (file : ℕ) (f : ℕ) → (is_synced f (Dropped file) ≡ true → f ≡ file) × (is_dropped f (Dropped file) ≡ true → f ≡ file)
dropped_is_of file f = ((λ h. absurd (true≢false (sym h))), (λ h. grind (arith, nat_tests, h)))

-- a file of which a sync has just failed, and that is given up
pub kept_failed : (settled : Bool) (files : Opens) (calls : Calls) (file : ℕ) (call : SystemCall) (cause : Error) → IsOf file call → file < length files → IsKept settled files calls
    → IsKept settled (given_up files file cause) (noted calls call false)
kept_failed settled files calls file call cause of there kept = record {
  names = λ h. names_more calls call false (kept.names h);
  marks = λ f h. settled_more f calls call false (kept.marks f (marked_given_up files file f cause h));
  doubts = λ f h. elim (doubt_now file f calls call of h) [
    | inl a ↦ refused_given_up files file f cause (kept.doubts f a)
    | inr e ↦ subst (λ n. is_refused (given_up files file cause) n ≡ true) (sym e) (refused_now files file cause there)
  ];
}

-- a file that was open, and could not be settled
pub kept_unsettled : (settled : Bool) (files : Opens) (calls new : Calls) (file : ℕ) (opened : Opened) (cause : Error) → slice_get files file ≡ Some (Ok opened) → HasFailedToSettle file calls new
    → IsKept settled files calls → IsKept settled (given_up files file cause) new
kept_unsettled settled files calls new file opened cause here (inl e) kept =
    subst (λ after. IsKept settled (given_up files file cause) after) (sym e)
    (kept_failed settled files calls file (Synced file) cause (synced_is_of file) (slice_get_within files file _ here) kept)
kept_unsettled settled files calls new file opened cause here (inr e) kept =
    subst (λ after. IsKept settled (given_up files file cause) after) (sym e)
    (kept_failed settled files _ file (Dropped file) cause (dropped_is_of file) (slice_get_within files file _ here) (kept_done settled files calls (Synced file) kept))

put_marked : (files : Opens) (file f : ℕ) (x : Result Opened Error) → file ≤ length files → is_marked (with_item files file x) f ≡ true → (is_marked files f ≡ true) ⊎ (f ≡ file)
put_marked [] zero zero x within h = inr refl
put_marked [] zero (suc f) x within h = inl h
put_marked [] (suc file) f x within h = absurd (omega (arith, within))
put_marked (y ∷ files) zero zero x within h = inr refl
put_marked (y ∷ files) zero (suc f) x within h = inl h
put_marked (y ∷ files) (suc file) zero x within h = inl h
put_marked (y ∷ files) (suc file) (suc f) x within h = elim (put_marked files file f x (omega (arith, within)) h) [ inl a ↦ inl a | inr e ↦ inr (ap suc e) ]

put_refused : (files : Opens) (file f : ℕ) (x : Result Opened Error) → is_refused files f ≡ true → (is_refused (with_item files file x) f ≡ true) ⊎ (f ≡ file)
put_refused [] file f x h = absurd (true≢false (sym h))
put_refused (y ∷ files) zero zero x h = inr refl
put_refused (y ∷ files) zero (suc f) x h = inl h
put_refused (y ∷ files) (suc file) zero x h = inl h
put_refused (y ∷ files) (suc file) (suc f) x h = elim (put_refused files file f x h) [ inl a ↦ inl a | inr e ↦ inr (ap suc e) ]

kept_put : (settled : Bool) (files : Opens) (calls : Calls) (file : ℕ) (x : Result Opened Error) → file ≤ length files → is_settled file calls ≡ true → is_in_doubt file calls ≡ false
    → IsKept settled files calls → IsKept settled (with_item files file x) calls
kept_put settled files calls file x within done sure kept = record {
  names = kept.names;
  marks = λ f h. elim (put_marked files file f x within h) [ inl a ↦ kept.marks f a | inr e ↦ subst (λ n. is_settled n calls ≡ true) (sym e) done ];
  doubts = λ f h. elim (put_refused files file f x (kept.doubts f h)) [
    | inl a ↦ a
    | inr e ↦ absurd (true≢false (sym h ∙ subst (λ n. is_in_doubt n calls ≡ false) (sym e) sure))
  ];
}

-- a file that was made anew, and of which no sync failed, is put in its place where there is memory for it
pub kept_made : {T E : Type 0} (result : Result T E) (settled : Bool) (files new : Opens) (calls : Calls) (file : ℕ) (x : Result Opened Error)
    → OnOk result (new ≡ with_item files file x) → OnErr result (new ≡ files)
    → file ≤ length files → is_settled file calls ≡ true → is_in_doubt file calls ≡ false → IsKept settled files calls → IsKept settled new calls
kept_made (Ok value) settled files new calls file x ok err within done sure kept = subst (λ n. IsKept settled n calls) (sym ok) (kept_put settled files calls file x within done sure kept)
kept_made (Err error) settled files new calls file x ok err within done sure kept = subst (λ n. IsKept settled n calls) (sym err) kept

zeroing_calls : (calls : Calls) (file : ℕ) → noted (noted calls (Zeroed file) true) (ZerosSynced file) true ≡ calls ++ zeroing file
zeroing_calls calls file = append_assoc calls ((Zeroed file, true) ∷ []) ((ZerosSynced file, true) ∷ [])

pub settled_made : (calls : Calls) (file : ℕ) → is_settled file (noted (noted (calls ++ zeroing file) (Renamed file) true) NamesSynced true) ≡ true
settled_made calls file =
    settled_more file _ NamesSynced true (or_left _ (if file == 0 then has_done (is_dropped file) after else has_done (is_synced file) after) (done_now (is_renamed file) _ (Renamed file) (same_test file)))
  where
    after : Calls
    after = noted (calls ++ zeroing file) (Renamed file) true

pub certain_made : (calls : Calls) (file : ℕ) → is_in_doubt file calls ≡ false → is_in_doubt file (noted (noted (calls ++ zeroing file) (Renamed file) true) NamesSynced true) ≡ false
certain_made calls file h =
    let zeroed = subst (λ l. is_in_doubt file l ≡ false) (zeroing_calls calls file) (certain_done file _ (ZerosSynced file) (certain_done file calls (Zeroed file) h)) in
    certain_done file _ NamesSynced (certain_done file (calls ++ zeroing file) (Renamed file) zeroed)

pub length_given_up : (files : Opens) (file : ℕ) (cause : Error) → length (given_up files file cause) ≡ length files
length_given_up [] file cause = refl
length_given_up (x ∷ files) zero cause = refl
length_given_up (x ∷ files) (suc file) cause = ap suc (length_given_up files file cause)

marked_pushed : (files : Opens) (x : Result Opened Error) (f : ℕ) → settles x ≡ false → is_marked (files ++ x ∷ []) f ≡ is_marked files f
marked_pushed [] x zero h = h
marked_pushed [] x (suc f) h = refl
marked_pushed (y ∷ files) x zero h = refl
marked_pushed (y ∷ files) x (suc f) h = marked_pushed files x f h

refused_pushed : (files : Opens) (x : Result Opened Error) (f : ℕ) → is_refused files f ≡ true → is_refused (files ++ x ∷ []) f ≡ true
refused_pushed [] x f h = absurd (true≢false (sym h))
refused_pushed (y ∷ files) x zero h = h
refused_pushed (y ∷ files) x (suc f) h = refused_pushed files x f h

-- perhaps one more file, which isn't settled
pub kept_pushed : (pushed : Bool) (settled : Bool) (files : Opens) (calls : Calls) (x : Result Opened Error) → settles x ≡ false → IsKept settled files calls
    → IsKept settled (if pushed then files ++ x ∷ [] else files) calls
kept_pushed false settled files calls x unsettled kept = kept
kept_pushed true settled files calls x unsettled kept = record {
  names = kept.names;
  marks = λ f h. kept.marks f (sym (marked_pushed files x f unsettled) ∙ h);
  doubts = λ f h. refused_pushed files x f (kept.doubts f h);
}

pub read_settled : {T E : Type 0} (result : Result T E) (file : ℕ) (before new : Calls) → new ≡ noted before (Read file) (is_ok result) → are_names_settled before ≡ true → is_settled file before ≡ true → is_in_doubt file before ≡ false
    → OnOk result (IsReadSettled file new)
read_settled (Ok value) file before new e names settled certain = (before, e, names, settled, certain)
read_settled (Err error) file before new e names settled certain = tt
