-- How far a pass is with its turn.
use Rattle.std.proofs.Common.{◌≡◌, ◌≢◌, true, false, refl, sym, arith}
use Rattle.std.proofs.lemmas.Bool.{false≢true}
use Rattle.stage_lock.specs.declared.known.Turn.{Turn}
use Rattle.stage_lock.specs.declared.known.Turn.TheVariants.{Without, Won, Out, Back}
use Rattle.stage_lock.specs.Rule.{word_of}
use Rattle.stage_lock.specs.Seen.{is_holding}

pub dec_without : (t : Turn) → Dec (t ≡ Without)
dec_without Without = yes refl
dec_without Won = no (λ e. cc)
dec_without Out = no (λ e. cc)
dec_without Back = no (λ e. cc)

pub dec_out : (t : Turn) → Dec (t ≡ Out)
dec_out Without = no (λ e. cc)
dec_out Won = no (λ e. cc)
dec_out Out = yes refl
dec_out Back = no (λ e. cc)

pub free : (t : Turn) → word_of t ≡ 0 → t ≡ Without
free Without e = refl
free Won e = absurd (omega arith)
free Out e = absurd (omega arith)
free Back e = absurd (omega arith)

pub taken : (t : Turn) → t ≢ Without → word_of t ≡ 1
taken Without n = absurd (n refl)
taken Won n = refl
taken Out n = refl
taken Back n = refl

pub not_taken : (t : Turn) → word_of t ≡ 1 → t ≢ Without
not_taken Without e = absurd (omega arith)
not_taken Won e = λ z. cc
not_taken Out e = λ z. cc
not_taken Back e = λ z. cc

pub idle_turn : (t : Turn) → is_holding t ≡ false → t ≡ Without
idle_turn Without e = refl
idle_turn Won e = absurd (false≢true (sym e))
idle_turn Out e = absurd (false≢true (sym e))
idle_turn Back e = absurd (false≢true (sym e))

pub holding_turn : (t : Turn) → is_holding t ≡ true → t ≢ Without
holding_turn Without e = absurd (false≢true e)
holding_turn Won e = λ z. cc
holding_turn Out e = λ z. cc
holding_turn Back e = λ z. cc

pub held_turn : (t : Turn) → t ≢ Without → is_holding t ≡ true
held_turn Without n = absurd (n refl)
held_turn Won n = refl
held_turn Out n = refl
held_turn Back n = refl

pub not_back : (t : Turn) → (t ≢ Without → t ≡ Out) → t ≢ Back
not_back t f e = let z = f (λ n. cc) in cc
