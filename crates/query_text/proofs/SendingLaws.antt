-- Text that is sent behind text.
use Rattle.std.proofs.Common.{◌≡◌, ℕ, ◌+◌, ◌<◌, ◌≤◌, inl, inr, OnErr, Result, Ok, Err, List, [], ◌++◌, Option, length, take, sym, ap, ◌∙◌, subst, append_assoc, append-nil, min, arith}
use Rattle.std.proofs.lemmas.List.{take_min, take-append-le}
use Rattle.outside.specs.Written.{Appends, AppendsPrefix}
use Rattle.outside.proofs.WrittenLaws.{appends_none, appends_more, appends_more_prefix}
use Rattle.query_text.specs.Sending.{HasRoom, Sends, room}

-- a text that waits whole
pub sends_waiting : (told : Option (List ℕ)) (waited waits text : List ℕ) → waits ≡ waited ++ text → Sends told waited told waits text
sends_waiting told waited waits text e = record { sent = []; appended = appends_none told; whole = e }

-- nothing is sent at first
pub sends_none : (told : Option (List ℕ)) (waits : List ℕ) → Sends told waits told waits []
sends_none told waits = sends_waiting told waits waits [] (sym (append-nil waits))

-- what waited was written
pub sends_written : (a b : Option (List ℕ)) (waited waits : List ℕ) → Appends a b waited → waits ≡ [] → Sends a waited b waits []
sends_written a b waited waits p e = record { sent = waited; appended = p; whole = ap (λ (l : List ℕ). waited ++ l) e }

-- where none waits before and behind, the text was written
pub sends_all : (a b : Option (List ℕ)) (waits text : List ℕ) → Sends a [] b waits text → (c : Option (List ℕ)) → Appends b c waits → Appends a c text
sends_all a b waits text p c q = subst (λ (l : List ℕ). Appends a c l) p.whole (appends_more a b c p.sent waits p.appended q)

-- a prefix of what still waits
pub sends_part : (a b : Option (List ℕ)) (waits text : List ℕ) → Sends a [] b waits text → (c : Option (List ℕ)) → AppendsPrefix b c waits → AppendsPrefix a c text
sends_part a b waits text p c q = subst (λ (l : List ℕ). AppendsPrefix a c l) p.whole (appends_more_prefix a b c p.sent waits p.appended q)

-- a text that is sent behind another
pub sends_more : (a b c : Option (List ℕ)) (waited between waits s t : List ℕ) → Sends a waited b between s → Sends b between c waits t → Sends a waited c waits (s ++ t)
sends_more a b c waited between waits s t p q = record {
  sent = p.sent ++ q.sent;
  appended = appends_more a b c p.sent q.sent p.appended q.appended;
  whole =
      append_assoc p.sent q.sent waits ∙ ap (λ (l : List ℕ). p.sent ++ l) q.whole ∙ sym (append_assoc p.sent between t) ∙ ap (λ (l : List ℕ). l ++ t) p.whole ∙ append_assoc waited s t;
}

-- a prefix of a text that comes behind another
pub sends_prefix : (a b c : Option (List ℕ)) (waited between s t : List ℕ) → Sends a waited b between s → AppendsPrefix b c (between ++ t) → AppendsPrefix a c (waited ++ (s ++ t))
sends_prefix a b c waited between s t p q =
    let e : p.sent ++ (between ++ t) ≡ waited ++ (s ++ t) =
    sym (append_assoc p.sent between t) ∙ ap (λ (l : List ℕ). l ++ t) p.whole ∙ append_assoc waited s t in
    subst (λ (l : List ℕ). AppendsPrefix a c l) e (appends_more_prefix a b c p.sent (between ++ t) p.appended q)

-- a prefix of the front is a prefix of the whole
pub prefix_of_front : (a b : Option (List ℕ)) (xs ys : List ℕ) → AppendsPrefix a b xs → AppendsPrefix a b (xs ++ ys)
prefix_of_front a b xs ys p =
    let k = min p.0 (length xs) in
    let within : k ≤ length xs = omega arith in
    let e : take p.0 xs ≡ take k (xs ++ ys) = sym (take_min p.0 xs) ∙ sym (take-append-le k xs ys within) in
    (k, subst (λ (l : List ℕ). Appends a b l) e p.1)

-- a prefix of a text is one of that text and what comes behind it
pub prefix_of_text : (a b : Option (List ℕ)) (waited xs ys : List ℕ) → AppendsPrefix a b (waited ++ xs) → AppendsPrefix a b (waited ++ (xs ++ ys))
prefix_of_text a b waited xs ys p =
    subst (λ (l : List ℕ). AppendsPrefix a b l) (append_assoc waited xs ys) (prefix_of_front a b (waited ++ xs) ys p)

-- where a piece has no room after room was made, none waits
none_waits : (count left : ℕ) (waits : List ℕ) → HasRoom count waits → left < count → left + length waits ≡ room → waits ≡ []
none_waits count left waits (inl fits) long is = absurd (omega (arith, fits, long, is))
none_waits count left waits (inr none) long is = none

module _ (a b : Option (List ℕ)) (waited waits piece : List ℕ) (left : ℕ) (p : Sends a waited b waits []) (has : HasRoom (length piece) waits) (long : left < length piece) (is : left + length waits ≡ room) where
  none : waits ≡ []
  none = none_waits (length piece) left waits has long is

  all_sent : p.sent ≡ waited
  all_sent = sym (append-nil p.sent) ∙ sym (ap (λ (l : List ℕ). p.sent ++ l) none) ∙ p.whole ∙ append-nil waited

  -- a piece that is written past what waits
  pub sends_past : (c : Option (List ℕ)) → Appends b c piece → Sends a waited c waits piece
  sends_past c q = record {
    sent = p.sent ++ piece;
    appended = appends_more a b c p.sent piece p.appended q;
    whole = ap (λ (l : List ℕ). (p.sent ++ piece) ++ l) none ∙ append-nil (p.sent ++ piece) ∙ ap (λ (l : List ℕ). l ++ piece) all_sent;
  }

  pub prefix_past : (c : Option (List ℕ)) → AppendsPrefix b c piece → AppendsPrefix a c (waited ++ piece)
  prefix_past c q =
      subst (λ (l : List ℕ). AppendsPrefix a c (l ++ piece)) all_sent (appends_more_prefix a b c p.sent piece p.appended q)

-- what holds at an end without success
pub on_err : {T E P : Type 0} (r : Result T E) → P → OnErr r P
on_err (Ok x) p = tt
on_err (Err e) p = p

-- A text that waits behind what waited, and one that is sent behind it.
module _ (a b c : Option (List ℕ)) (waited made head_waits head rest : List ℕ) (p : Sends a waited b made []) (e : head_waits ≡ made ++ head) where
  pub sends_head : (waits : List ℕ) → Sends b head_waits c waits rest → Sends a waited c waits (head ++ rest)
  sends_head waits q =
      sends_more a b c waited made waits [] (head ++ rest) p (sends_more b b c made head_waits waits head rest (sends_waiting b made head_waits head e) q)

  pub prefix_head : AppendsPrefix b c (head_waits ++ rest) → AppendsPrefix a c (waited ++ (head ++ rest))
  prefix_head q =
      sends_prefix a b c waited made [] (head ++ rest) p (sends_prefix b b c made head_waits head rest (sends_waiting b made head_waits head e) q)
