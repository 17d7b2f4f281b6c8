-- Laws of rows over streams: bytes read on and laid on, a row got, put, and put back.
use Rattle.std.proofs.Common.{◌≡◌, ℕ, ◌+◌, ◌-◌, ◌^◌, ◌<◌, ◌≤◌, true, leb, List, length, get_or, take, drop, ℤ, pos, ◌+ℤ◌, IsErrAnd, MatchResult, Some, None, Ok, Err, Option, Result, option_map, sym, refl, ap, ◌∙◌, subst, inl, inr, ⊎_elim, arith, length-append, length-drop, length-take, w32, w64, SFits, to_z, of_z, rules}
use borrow.Rule.Slice.PartMut.{put_mid}
use Rattle.std.specs.Option.{ok_or}
use Rattle.std.proofs.lemmas.List.{take_all, ext_get_or, get_or-take, get_or-drop}
use Rattle.std.proofs.lemmas.Int.{ints, to_z-of_z}
use Rattle.std.proofs.lemmas.Bool.{cases_lt, cond-true, le-leb}
use Rattle.calls.specs.declared.refusal.Refusal.{Refusal}
use Rattle.calls.specs.Refusal.{notice}
use Rattle.stream.specs.Stream.{Stream, Kept, Sound, Refused, Why, Read, Wrote, Sought, Flushed, Outside, At, laid}
use Rattle.stream.specs.Steps.{Put, Got}
use Rattle.stream.proofs.Bytes.{length-laid, get_or-laid_in}
use Rattle.stream.proofs.Streams.{kept_then, why_map, in_range}
use Rattle.stream.proofs.Steps.{put_more, length_slice, got_more, left_after}
use Rattle.rows.specs.declared.refusal.RowRefusal.{RowRefusal}
use Rattle.rows.specs.declared.refusal.RowRefusal.TheVariants.{Missing, NoQuote, Unwritable, Below}
use Rattle.rows.specs.declared.refusal.PutRefusal.{PutRefusal}
use Rattle.rows.specs.Moves.{Filled, LayWhy, LaidOn}
use Rattle.rows.specs.Rows.{row_at, gotten, Answered, GotRow, PutWhy, LaidAt, PutPart, PutWhole, PutRow, PatchRow}

-- two steps, of which the second moves no byte shown
kept_on : (a b c : Stream) → c.shown ≡ b.shown → Kept a b → Kept b c → Kept a c
kept_on a b c same k l =
    record { limit_same = l.limit_same ∙ k.limit_same; steady_on = λ u. l.steady_on (k.steady_on u); held_from = λ p x h. ⊎_elim (λ g. ⊎_elim inl (λ at. inr (subst (λ (xs : List ℕ). At xs p x) (sym same) at)) (k.held_from p x g)) inr (l.held_from p x h) }

-- ── bytes read on ──

got_size : (s t : Stream) (buf out : List ℕ) (n : ℕ) → Got s t buf out n → length out ≡ length buf
got_size s t buf out n g = let a = g.count_buf in let b = g.count_left in ap length g.filled ∙ simp (length-append, length-take, length-drop) (omega arith)

-- a read that gives nothing, though the row has room: all that was left is in it
pub fill_end : (s t u : Stream) (buf mid out : List ℕ) (n m : ℕ) → Sound s → Got s t buf mid n → Read t u (take (length mid - n) (drop n mid)) out m → m ≡ 0 →
    Filled s u buf (put_mid n (length mid - n) mid out) (Ok n)
fill_end s t u buf mid out n m sound g r z =
    let more = got_more s t u buf mid out n m sound g r in
    let same : n + m ≡ n = omega arith in
    let size = got_size s t buf mid n g in
    let part = length_slice mid n (length mid) (search rules) in
    let rest = left_after s t buf mid n g in
    let none = r.some z in
    let most = g.count_left in
    (subst (λ (k : ℕ). Got s u buf (put_mid n (length mid - n) mid out) k) same more, λ short. omega arith)

-- ── bytes laid on ──

pub lay_more : (s t u : Stream) (row : List ℕ) (n m : ℕ) → Sound s → n ≤ length row → Put s t (take n row) → Wrote t u (take (length row - n) (drop n row)) m →
    Put s u (take (n + m) row) × (n + m ≤ length row) × (s.position + length row ≤ s.limit)
lay_more s t u row n m sound le p w =
    let q = put_more s t u row n (length row) m sound le (search rules) p w in
    let f = w.fits in
    let l = length_slice row n (length row) (search rules) in
    let a = length-take n row in
    let x = p.moved in
    let k = p.kept.limit_same in
    (q.1, q.0, omega arith)

-- ── what a call is passed ──

-- a value, to its 32 bits and back
abbrev passed : ℤ → ℤ
passed value = to_z w32 (of_z w32 value)

writes_passed : (writes : ℤ → Option (List ℕ)) (value : ℤ) → SFits w32 value → writes (passed value) ≡ writes value
writes_passed writes value fits = ap writes (to_z-of_z w32 value fits)

-- the row that a kind gives for a value is the one that the value writes
pub writes_row : {R : Type 0} (writes : ℤ → Option (List ℕ)) (bytes : R → List ℕ) (value : ℤ) (o : Option R) (r : R) → SFits w32 value → option_map bytes o ≡ writes (passed value) → o ≡ Some r → writes value ≡ Some (bytes r)
writes_row writes bytes value o r fits e is = sym (writes_passed writes value fits) ∙ sym e ∙ ap (option_map bytes) is

-- ── to a row's place ──

-- what a seek to a place from the start asks for
abbrev goal : ℕ → ℤ
goal p = to_z w64 p +ℤ pos 0

goal_is : (p : ℕ) → p < 2 ^ 36 → goal p ≡ pos p
goal_is p small = omega (arith, ints)

-- where a granted seek to a place leads
sought_place : (p : ℕ) (s t : Stream) (v : ℕ) → p < 2 ^ 36 → Sought s t (goal p) v → t.position ≡ p
sought_place p s t v small r = let g = r.goal_is in let is = goal_is p small in let same : v ≡ p = cc in r.moved ∙ same

not_outside : (p : ℕ) (s : Stream) → p < 2 ^ 36 → p ≤ s.limit → Outside s (goal p) → ⊥
not_outside p s small le out = in_range s p le (subst (λ (x : ℤ). Outside s x) (goal_is p small) out)

-- ── a row got ──

gotten_there : (reads : List ℕ → Option ℤ) (width p : ℕ) (bytes row : List ℕ) → p + width ≤ length bytes → row_at bytes width p ≡ row → gotten reads width bytes p ≡ ok_or (reads row) NoQuote
gotten_there reads width p bytes row h e =
    cond-true (leb (p + width) (length bytes)) (ok_or (reads (row_at bytes width p)) NoQuote) (Err Missing) (le-leb (p + width) (length bytes) h) ∙ ap (λ (xs : List ℕ). ok_or (reads xs) NoQuote) e

-- ── a row put ──

-- the seek is refused
pub put_unsought : (o : Option (List ℕ)) (row : List ℕ) (p : ℕ) (s t : Stream) (e : Refusal) → o ≡ Some row → 0 < length row → p < 2 ^ 36 → Refused s t (Outside s (goal p)) ⊥ e → PutRow o p s t (Err (record { why = Below e; fresh = 0 }))
put_unsought o row p s t e is some small r =
    let past : Outside s (goal p) → s.limit < p = λ out. ⊎_elim (λ h. h) (λ le. absurd (not_outside p s small le out)) (cases_lt s.limit p) in
    subst (λ (x : Option (List ℕ)). PutRow x p s t (Err (record { why = Below e; fresh = 0 }))) (sym is)
    (record { part = record { kept = r.still.kept; shown_laid = r.still.shown_same }; count = search rules; fits = λ h. absurd (omega arith); why = why_map (Outside s (goal p)) ⊥ (s.limit < p) ((p ≤ s.limit) × (s.limit < p + length row)) s s (notice e).number (λ u. u) past (λ x. absurd x) r.why }, some)

lay_why : (s t : Stream) (width p : ℕ) (x : RowRefusal) → Kept s t → t.position ≡ p → p ≤ s.limit → LayWhy t width x → PutWhy s width p x
lay_why s t width p Missing k at le w = w
lay_why s t width p NoQuote k at le w = w
lay_why s t width p Unwritable k at le w = w
lay_why s t width p (Below e) k at le w =
    let l = k.limit_same in
    why_map ⊥ (t.limit < t.position + width) (s.limit < p) ((p ≤ s.limit) × (s.limit < p + width)) t s (notice e).number k.steady_on (λ x. absurd x) (λ h. (le, omega arith)) w

-- bytes put where a seek led are laid at the place
laid_at : (bytes : List ℕ) (p : ℕ) (s t u : Stream) → Sound s → t.shown ≡ s.shown → t.position ≡ p → Kept s t → Put t u bytes → LaidAt bytes p s u
laid_at bytes p s t u sound same at k q =
    record { kept = kept_then s t u sound same k q.kept; shown_laid = q.shown_laid ∙ ap (λ (xs : List ℕ). laid xs t.position bytes) same ∙ ap (λ (n : ℕ). laid s.shown n bytes) at }

put_some : (row : List ℕ) (p : ℕ) (s t u : Stream) (v : ℕ) (r : Result (Unit {0}) PutRefusal) → Sound s → p < 2 ^ 36 → Sought s t (goal p) v → LaidOn row t u r → PutRow (Some row) p s u r
put_some row p s t u v (Ok x) sound small r (q, fits) =
    let at = sought_place p s t v small r in
    let l = r.kept.limit_same in
    let m = q.moved in
    record { whole = laid_at row p s t u sound r.shown_same at r.kept q; fits = omega arith; ends = omega arith }
put_some row p s t u v (Err x) sound small r (q, less, fits, w) =
    let at = sought_place p s t v small r in
    let l = r.kept.limit_same in
    let f = r.fits in
    let m = r.moved in
    (record { part = laid_at (take x.fresh row) p s t u sound r.shown_same at r.kept q; count = omega arith; fits = λ h. let g = fits h in omega arith; why = lay_why s t (length row) p x.why r.kept at (omega arith) w }, less)

pub put_laid : (o : Option (List ℕ)) (row : List ℕ) (p : ℕ) (s t u : Stream) (v : ℕ) (r : Result (Unit {0}) PutRefusal) → o ≡ Some row → Sound s → p < 2 ^ 36 → Sought s t (goal p) v → LaidOn row t u r → PutRow o p s u r
put_laid o row p s t u v r is sound small q l = subst (λ (x : Option (List ℕ)). PutRow x p s u r) (sym is) (put_some row p s t u v r sound small q l)

-- ── put, flush and get back ──

row_back : (xs : List ℕ) (p : ℕ) (row : List ℕ) (width : ℕ) → length row ≡ width → 1 ≤ width → row_at (laid xs p row) width p ≡ row
row_back xs p row width size wide =
    let l = length-laid xs p row (omega arith) in
    let d = length-drop p (laid xs p row) in
    let t = length-take width (drop p (laid xs p row)) in
    ext_get_or 0 _ _ (omega arith)
    (λ i h. get_or-take width (drop p (laid xs p row)) i 0 (omega arith) ∙ get_or-drop p (laid xs p row) i 0 ∙ get_or-laid_in xs p row (p + i) (search rules) (omega arith) ∙ ap (λ (k : ℕ). get_or row k 0) (omega arith))

-- a get of the row that was laid gives the value that it reads as
gotten_back : (reads : List ℕ → Option ℤ) (width p : ℕ) (s t : Stream) (row : List ℕ) (value : ℤ) → 1 ≤ width → reads row ≡ Some value → length row ≡ width → t.shown ≡ laid s.shown p row → gotten reads width t.shown p ≡ Ok value
gotten_back reads width p s t row value wide back size same =
    let l = length-laid s.shown p row (omega arith) in
    ap (λ (xs : List ℕ). gotten reads width xs p) same ∙ gotten_there reads width p (laid s.shown p row) row (omega arith) (row_back s.shown p row width size wide) ∙ ap (λ (o : Option ℤ). ok_or o NoQuote) back

-- a refusal after the row is laid: all of the row is new
patch_part : (row : List ℕ) (n p : ℕ) (s t u : Stream) (x : RowRefusal) → length row ≡ n → PutWhole row p s t → Kept t u → u.shown ≡ t.shown → PutWhy s (length row) p x → PutPart row p s u (record { why = x; fresh = n })
patch_part row n p s t u x size w k same why =
    record { part = record { kept = kept_on s t u same w.whole.kept k; shown_laid = same ∙ w.whole.shown_laid ∙ ap (laid s.shown p) (sym (take_all n row (omega arith))) }; count = omega arith; fits = λ h. w.fits; why = why }

-- a refusal of a stream that is not steady
unsteady_why : (s t : Stream) (width p : ℕ) (e : Refusal) → Kept s t → Why t ⊥ ⊥ (notice e).number → PutWhy s width p (Below e)
unsteady_why s t width p e k w = why_map ⊥ ⊥ (s.limit < p) ((p ≤ s.limit) × (s.limit < p + width)) t s (notice e).number k.steady_on (λ x. absurd x) (λ x. absurd x) w

some_granted : {X : Type 0} (o : Option (List ℕ)) (p : ℕ) (s t : Stream) (v : Unit {0}) → PutRow o p s t (Ok v) → ((row : List ℕ) → o ≡ Some row → PutWhole row p s t → X) → X
some_granted None p s t v put f = absurd (let z : ◌≡◌ {A = ℕ} 0 1 = cc put.0 in omega arith)
some_granted (Some row) p s t v put f = f row refl put

-- a put that was granted had a row
granted_row : {X : Type 0} (writes : ℤ → Option (List ℕ)) (value : ℤ) (p : ℕ) (s t : Stream) (v : Unit {0}) → SFits w32 value → PutRow (writes (passed value)) p s t (Ok v) → ((row : List ℕ) → writes value ≡ Some row → PutWhole row p s t → X) → X
granted_row writes value p s t v fits put f = some_granted (writes value) p s t v (subst (λ (o : Option (List ℕ)). PutRow o p s t (Ok v)) (writes_passed writes value fits) put) f

pub patch_unflushed : (writes : ℤ → Option (List ℕ)) (value : ℤ) (n p : ℕ) (s t u : Stream) (v : Unit {0}) (e : Refusal) → SFits w32 value → ((row : List ℕ) → writes value ≡ Some row → length row ≡ n) → PutRow (writes (passed value)) p s t (Ok v) → Refused t u ⊥ ⊥ e → PatchRow value (writes value) p s u (Err (record { why = Below e; fresh = n }))
patch_unflushed writes value n p s t u v e fits size put r =
    granted_row writes value p s t v fits put
    (λ row is q. subst (λ (o : Option (List ℕ)). PatchRow value o p s u (Err (record { why = Below e; fresh = n }))) (sym is) (patch_part row n p s t u (Below e) (size row is) q r.still.kept r.still.shown_same (unsteady_why s t (length row) p e q.whole.kept r.why)))

-- what is stored after a flush and a get is shown
stored_back : (t u : Stream) → Sound u → ((q b : ℕ) → t.held q b ≡ true → At t.shown q b) → Kept t u → u.shown ≡ t.shown → (q b : ℕ) → At u.stored q b → At u.shown q b
stored_back t u sound held k same q b at =
    ⊎_elim (λ h. subst (λ (xs : List ℕ). At xs q b) (sym same) (held q b h)) (λ h. h) (k.held_from q b (sound.storing q b at))

pub patch_granted : (writes : ℤ → Option (List ℕ)) (reads : List ℕ → Option ℤ) (value : ℤ) (width p : ℕ) (s t u w : Stream) (v : Unit {0}) (x : ℤ) → SFits w32 value → SFits w32 x → 1 ≤ width → ((row : List ℕ) → writes value ≡ Some row → (reads row ≡ Some value) × (length row ≡ width)) → PutRow (writes (passed value)) p s t (Ok v) → Flushed t u → Sound w → GotRow reads width p u w (Ok x) → PatchRow value (writes value) p s w (Ok (passed x))
patch_granted writes reads value width p s t u w v x fits fits-x wide back put fl sound r =
    granted_row writes value p s t v fits put
    (λ row is q.
    let k = back row is in
    let size = k.1 in
    let came = r.answered ∙ gotten_back reads width p s u row value wide k.0 size (fl.still.shown_same ∙ q.whole.shown_laid) in
    let value-is : x ≡ value = cc came in
    let ends = r.ends in
    subst (λ (o : Option (List ℕ)). PatchRow value o p s w (Ok (passed x))) (sym is)
    (record {
      comes_back = to_z-of_z w32 x fits-x ∙ value-is;
      put = record { whole = record { kept = kept_on s u w r.shown_same (kept_on s t u fl.still.shown_same q.whole.kept fl.still.kept) r.kept; shown_laid = r.shown_same ∙ fl.still.shown_same ∙ q.whole.shown_laid }; fits = q.fits; ends = omega arith };
      stored_shown = stored_back u w sound fl.held_shown r.kept r.shown_same;
    }))

-- a get of the row just laid is refused only by the stream
back_why : (reads : List ℕ → Option ℤ) (width p n : ℕ) (s t : Stream) (value : ℤ) (x : RowRefusal) → gotten reads width t.shown p ≡ Ok value → Kept s t → Answered t (gotten reads width t.shown p) (Err x) → PutWhy s n p x
back_why reads width p n s t value Missing is k a = let z : ◌≡◌ {A = ℕ} 0 1 = cc (a ∙ is) in absurd (omega arith)
back_why reads width p n s t value NoQuote is k a = let z : ◌≡◌ {A = ℕ} 0 1 = cc (a ∙ is) in absurd (omega arith)
back_why reads width p n s t value Unwritable is k a = a
back_why reads width p n s t value (Below e) is k a = unsteady_why s t n p e k a

pub patch_ungotten : (writes : ℤ → Option (List ℕ)) (reads : List ℕ → Option ℤ) (value : ℤ) (width n p : ℕ) (s t u w : Stream) (v : Unit {0}) (x : RowRefusal) → SFits w32 value → n ≡ width → 1 ≤ width → ((row : List ℕ) → writes value ≡ Some row → (reads row ≡ Some value) × (length row ≡ width)) → PutRow (writes (passed value)) p s t (Ok v) → Flushed t u → GotRow reads width p u w (Err x) → PatchRow value (writes value) p s w (Err (record { why = x; fresh = n }))
patch_ungotten writes reads value width n p s t u w v x fits same wide back put fl r =
    granted_row writes value p s t v fits put
    (λ row is q.
    let k = back row is in
    let there = gotten_back reads width p s u row value wide k.0 k.1 (fl.still.shown_same ∙ q.whole.shown_laid) in
    let kept = kept_on s t u fl.still.shown_same q.whole.kept fl.still.kept in
    subst (λ (o : Option (List ℕ)). PatchRow value o p s w (Err (record { why = x; fresh = n }))) (sym is)
    (patch_part row n p s t w x (k.1 ∙ sym same) q (kept_on t u w r.shown_same fl.still.kept r.kept) (r.shown_same ∙ fl.still.shown_same) (back_why reads width p (length row) s u value x there kept r.answered)))
