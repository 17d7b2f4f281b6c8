-- One call after another: the laws of bytes put and got by several calls.
use Rattle.std.proofs.Common.{◌≡◌, ℕ, ◌+◌, ◌-◌, ◌<◌, ◌≤◌, min, ◌⊎◌, List, [], ◌++◌, length, take, drop, sym, refl, ap, ◌∙◌, subst, inl, inr, ⊎_elim, arith, length-append, length-drop, length-take, rules}
use borrow.Rule.Slice.PartMut.{put_mid}
use Rattle.std.proofs.lemmas.List.{take_at, drop_at, append_assoc, take_all, take-take, drop-take, take-append-drop, append-nil, drop_all, drop-drop, length-take-le}
use Rattle.std.proofs.lemmas.Bool.{cases_lt}
use Rattle.stream.specs.Stream.{Stream, Sound, Read, Wrote, laid, At, left}
use Rattle.stream.specs.Steps.{Put, Got}
use Rattle.stream.proofs.Streams.{kept_refl, kept_then}
use Rattle.stream.proofs.Bytes.{laid_rest, at_part}

-- ── bytes put ──

pub put_none : (s : Stream) (buf : List ℕ) → Put s s (take 0 buf)
put_none s buf = record { kept = kept_refl s; shown_laid = refl; moved = search rules }

pub put_from : (s t : Stream) (buf : List ℕ) (n : ℕ) → Wrote s t buf n → Put s t (take n buf)
put_from s t buf n w = let c = w.count in let l = length-take-le n buf (omega arith) in let m = w.moved in record { kept = w.kept; shown_laid = w.shown_laid; moved = omega arith }

pub put_then : (s t u : Stream) (buf : List ℕ) (n m : ℕ) → Sound s → n + m ≤ length buf → Put s t (take n buf) → Put t u (take m (drop n buf)) → Put s u (take (n + m) buf)
put_then s t u buf n m sound le a b =
    let l₁ = length-take-le n buf (omega arith) in
    let l₂ : length (take m (drop n buf)) ≡ m = simp (length-take, length-drop) (omega arith) in
    let l₃ = length-take-le (n + m) buf (omega arith) in
    let x₁ = a.moved in
    let x₂ = b.moved in
    let e₁ : take n (take (n + m) buf) ≡ take n buf = take-take n (n + m) buf (omega arith) in
    let e₂ : drop n (take (n + m) buf) ≡ take m (drop n buf) = drop-take n m buf in
    let r = laid_rest s.shown s.position n (take (n + m) buf) (omega arith) in
    let y₁ = a.shown_laid in
    let y₂ = b.shown_laid in
    let at : t.position ≡ s.position + n = omega arith in
    let shown : u.shown ≡ laid s.shown s.position (take (n + m) buf) = cc in
    let k = a.kept in
    let j = b.kept in
    let part : (p x : ℕ) → At t.shown p x → At s.shown p x ⊎ At u.shown p x = λ p x h.
    let h' : At (laid s.shown s.position (take n (take (n + m) buf))) p x = subst (λ (xs : List ℕ). At xs p x) (y₁ ∙ ap (laid s.shown s.position) (sym e₁)) h in
    ⊎_elim inl (λ q. inr (subst (λ (xs : List ℕ). At xs p x) (sym shown) q)) (at_part s.shown s.position n (take (n + m) buf) p x (omega arith) h') in
    record {
      kept = record { limit_same = j.limit_same ∙ k.limit_same; steady_on = λ v. j.steady_on (k.steady_on v); held_from = λ p x v. ⊎_elim (λ th. ⊎_elim inl (λ here. ⊎_elim (λ q. inl (sound.showing p x q)) inr (part p x here)) (k.held_from p x th)) inr (j.held_from p x v) };
      shown_laid = shown;
      moved = omega arith;
    }

pub put_more : (s t u : Stream) (buf : List ℕ) (w e m : ℕ) → Sound s → w ≤ e → e ≤ length buf → Put s t (take w buf) → Wrote t u (take (e - w) (drop w buf)) m → (w + m ≤ length buf) × Put s u (take (w + m) buf)
put_more s t u buf w e m sound le le₂ p x =
    let l : length (take (e - w) (drop w buf)) ≡ e - w = simp (length-take, length-drop) (omega arith) in
    let c = x.count in
    let q = put_from t u (take (e - w) (drop w buf)) m x in
    let same : take m (take (e - w) (drop w buf)) ≡ take m (drop w buf) = take-take m (e - w) (drop w buf) (omega arith) in
    (omega arith, put_then s t u buf w m sound (omega arith) p (subst (λ (xs : List ℕ). Put t u xs) same q))

pub room_left : (s t : Stream) (buf : List ℕ) (w : ℕ) → Put s t (take w buf) → w ≤ length buf → s.position + length buf ≤ s.limit → t.position + (length buf - w) ≤ t.limit
room_left s t buf w p le fits = let l = length-take-le w buf (omega arith) in let m = p.moved in let k = p.kept.limit_same in omega arith

pub length_slice : (buf : List ℕ) (w e : ℕ) → e ≤ length buf → length (take (e - w) (drop w buf)) ≡ e - w
length_slice buf w e h = simp (length-take, length-drop) (omega arith)

pub some_from : (s t : Stream) (buf : List ℕ) (n : ℕ) → Wrote s t buf n → 0 < length buf → 0 < n
some_from s t buf n w h = ⊎_elim (λ (z : n < 1). let q = w.some (omega arith) in absurd (omega arith)) (λ (z : 1 ≤ n). z) (cases_lt n 1)

-- ── bytes got ──

pub got_none : (s : Stream) (buf : List ℕ) → Got s s buf buf 0
got_none s buf = record { kept = kept_refl s; count_buf = search rules; count_left = search rules; filled = refl; shown_same = refl; moved = search rules }

pub got_read : (s t : Stream) (buf out : List ℕ) (n : ℕ) → (n ≡ 0 → min (length buf) (left s) ≡ 0) → Got s t buf out n → Read s t buf out n
got_read s t buf out n some g = record { kept = g.kept; count_buf = g.count_buf; count_left = g.count_left; some = some; filled = g.filled; shown_same = g.shown_same; moved = g.moved }

got_length : (X buf : List ℕ) (n : ℕ) → n ≤ length X → n ≤ length buf → length (take n X ++ drop n buf) ≡ length buf
got_length X buf n h l = simp (length-append, length-take, length-drop) (omega arith)

got_bytes : (X B mid out : List ℕ) (n m : ℕ) → n + m ≤ length X → n + m ≤ length B → mid ≡ take n X ++ drop n B → out ≡ take m (drop n X) ++ drop m (take (length mid - n) (drop n mid)) →
    put_mid n (length mid - n) mid out ≡ take (n + m) X ++ drop (n + m) B
got_bytes X B mid out n m h l e f =
    let lx : length (take n X) ≡ n = simp length-take (omega arith) in
    let lm : length mid ≡ length B = ap length e ∙ got_length X B n (omega arith) (omega arith) in
    let lk : length mid - n ≡ length B - n = omega arith in
    let ld = length-drop n B in
    let tm : take n mid ≡ take n X = ap (take n) e ∙ take_at (take n X) (drop n B) n lx in
    let dm : drop n mid ≡ drop n B = ap (drop n) e ∙ drop_at (take n X) (drop n B) n lx in
    let ta : take (length B - n) (drop n B) ≡ drop n B = take_all (length B - n) (drop n B) (omega arith) in
    let da : drop (length B - n) (drop n B) ≡ [] = drop_all (length B - n) (drop n B) (omega arith) in
    let dd : drop m (drop n B) ≡ drop (n + m) B = drop-drop m n B in
    let t₁ = take-append-drop n (take (n + m) X) in
    let t₂ : take n (take (n + m) X) ≡ take n X = take-take n (n + m) X (omega arith) in
    let t₃ : drop n (take (n + m) X) ≡ take m (drop n X) = drop-take n m X in
    let a₁ = append-nil out in
    let a₂ = append_assoc (take n X) (take m (drop n X)) (drop (n + m) B) in
    cc

pub got_more : (s t u : Stream) (buf mid out : List ℕ) (n m : ℕ) → Sound s → Got s t buf mid n → Read t u (take (length mid - n) (drop n mid)) out m → Got s u buf (put_mid n (length mid - n) mid out) (n + m)
got_more s t u buf mid out n m sound g r =
    let e = g.shown_same in
    let p = g.moved in
    let c₁ = g.count_buf in
    let c₂ = g.count_left in
    let c₃ = r.count_left in
    let c₄ = r.count_buf in
    let x = r.moved in
    let lt : length t.shown ≡ length s.shown = ap length e in
    let lX = length-drop s.position s.shown in
    let lm : length mid ≡ length buf = ap length g.filled ∙ got_length (drop s.position s.shown) buf n (omega arith) (omega arith) in
    let ls : length (take (length mid - n) (drop n mid)) ≡ length mid - n = length_slice mid n (length mid) (search rules) in
    let dd : drop n (drop s.position s.shown) ≡ drop (s.position + n) s.shown = drop-drop n s.position s.shown in
    let f₀ = r.filled in
    let f : out ≡ take m (drop n (drop s.position s.shown)) ++ drop m (take (length mid - n) (drop n mid)) = cc in
    record { kept = kept_then s t u sound e g.kept r.kept; count_buf = omega arith; count_left = omega arith; filled = got_bytes (drop s.position s.shown) buf mid out n m (omega arith) (omega arith) g.filled f; shown_same = r.shown_same ∙ e; moved = omega arith }

pub left_after : (s t : Stream) (buf mid : List ℕ) (n : ℕ) → Got s t buf mid n → left t ≡ left s - n
left_after s t buf mid n g = let l : length t.shown ≡ length s.shown = ap length g.shown_same in let p = g.moved in omega arith
