-- A number that is written into bytes from a place on.
use Rattle.std.proofs.Common.{◌≡◌, ℕ, ◌+◌, ◌-◌, ◌≤◌, List, [], ◌++◌, length, take, drop, sym, ap, ◌∙◌, arith}
use Rattle.std.proofs.lemmas.List.{append-nil, append_assoc, drop-drop, drop_all, length-drop, take_all}
use Rattle.byteorder.specs.Endian.{little_bytes}
use borrow.Rule.Slice.PartMut.{put_mid}
use Rattle.reach_model.specs.Added.{put}

pub written : (n place number : ℕ) (xs ys : List ℕ) → place ≤ length xs → ys ≡ little_bytes n number ++ drop n (take (length xs - place) (drop place xs)) → put_mid place (length xs - place) xs ys ≡ put n place number xs
unfolding put
written n place number xs ys inside is =
    let long = length-drop place xs in
    let rest : take (length xs - place) (drop place xs) ≡ drop place xs = take_all (length xs - place) (drop place xs) (omega (arith, long)) in
    let none : drop (length xs - place) (drop place xs) ≡ [] = drop_all (length xs - place) (drop place xs) (omega (arith, long)) in
    let bytes : ys ≡ little_bytes n number ++ drop (place + n) xs = is ∙ ap (λ zs. little_bytes n number ++ drop n zs) rest ∙ ap (λ zs. little_bytes n number ++ zs) (drop-drop n place xs) in
    ap (λ zs. take place xs ++ (ys ++ zs)) none ∙ ap (λ zs. take place xs ++ zs) (append-nil ys ∙ bytes) ∙ sym (append_assoc (take place xs) (little_bytes n number) (drop (place + n) xs))

-- a slice of all bytes was written into
pub settled : (n : ℕ) (new items : List ℕ) → length new ≡ length items → n ≡ length items → take n (new ++ drop (length new) items) ≡ new
settled n new items same all =
    let none : drop (length new) items ≡ [] = drop_all (length new) items (omega (arith, same)) in
    rw (none, append-nil) (take_all n new (omega (arith, same, all)))
