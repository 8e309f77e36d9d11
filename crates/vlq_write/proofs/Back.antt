-- What is written is read back, and no bytes that are read so are fewer. Assumes nothing.
use Rattle.std.proofs.Common.{◌≡◌, ℕ, zero, suc, ◌+◌, ◌-◌, ◌*◌, ◌/◌, ◌%◌, ◌^◌, ◌<◌, ◌≤◌, Bool, true, false, ltb, List, [], ◌∷◌, ◌++◌, length, refl, ap, ◌∙◌, arith, ltb-false, ltb-true}
use Rattle.digits.specs.Digits.{char_of, digit_of, is_delim}
use Rattle.digits.proofs.Tables.{char}
use Rattle.vlq.specs.Vlq.{num, digits_from, vlq_from, vlq_of}
use Rattle.vlq.proofs.Values.{tail_size, tail_under}
use Rattle.vlq.proofs.Steps.{tail_last, tail_more}
use Rattle.vlq_write.specs.Write.{digits_of, write_of}
use Rattle.vlq_write.proofs.Digits.{digits_last, digits_more, smaller, some_left, few}

-- the digits of n, then any bytes, are n, where `left` digits may be read
abbrev Reads : ℕ → ℕ → ℕ → List ℕ → Type 0
Reads f left n post = digits_from left (digits_of f n ++ post) ≡ num n (length (digits_of f n))

last : (f left n : ℕ) (post : List ℕ) → n < 32 → 0 < left → Reads f left n post
last f left n post p z =
    let ch = char n (omega arith) in
    let d : digit_of (char_of n) < 32 = rw ch.reads p in
    rw (digits_last f n p, tail_last left (char_of n) post ch.delim z d, ch.reads)

more : (f l n : ℕ) (post : List ℕ) → 32 ≤ n → Reads f l (n / 32) post → Reads (suc f) (suc l) n post
more f l n post p ih =
    let ch = char (n % 32 + 32) (omega arith) in
    let d : 32 ≤ digit_of (char_of (n % 32 + 32)) = rw ch.reads (omega arith) in
    let q : suc l - 1 ≡ l = omega arith in
    rw (digits_more f n p, tail_more (suc l) (char_of (n % 32 + 32)) (digits_of f (n / 32) ++ post) ch.delim (omega arith) d, ch.reads, q, ih)
    (ap (λ (m : ℕ). num m (length (digits_of f (n / 32)) + 1)) (omega arith)
    ∙ ap (λ (m : ℕ). num n m) (omega arith))

by_size : (t : Bool) (f left n : ℕ) (post : List ℕ) → ltb n 32 ≡ t → n ≤ suc f → 0 < left → n < 2 ^ (5 * left)
    → ((l m : ℕ) → m ≤ f → 0 < l → m < 2 ^ (5 * l) → Reads f l m post) → Reads (suc f) left n post
by_size true f left n post e b z h ih = last (suc f) left n post (ltb-true n 32 e) z
by_size false f zero n post e b z h ih = absurd (omega arith)
by_size false f (suc l) n post e b z h ih =
    let p : 32 ≤ n = ltb-false n 32 e in
    more f l n post p (ih l (n / 32) (omega arith) (some_left n l p h) (smaller n l h))

reads_from : (f left n : ℕ) (post : List ℕ) → n ≤ f → 0 < left → n < 2 ^ (5 * left) → Reads f left n post
reads_from zero left n post b z h = last zero left n post (omega arith) z
reads_from (suc f) left n post b z h = by_size (ltb n 32) f left n post refl b z h (λ l m. reads_from f l m post)

-- thirteen digits may be read
pub reads : (n : ℕ) (post : List ℕ) → n < 2 ^ 65 → digits_from 13 (write_of n ++ post) ≡ num n (length (write_of n))
reads n post h = reads_from n 13 n post (omega arith) (omega arith) h

-- a number begins with a digit, so a value stands where it is written
begins_by : (t : Bool) (at n : ℕ) (post : List ℕ) → ltb n 32 ≡ t → vlq_of at (write_of n ++ post) ≡ vlq_from at (digits_from 13 (write_of n ++ post))
unfolding vlq_of
begins_by true at n post e =
    let p = ltb-true n 32 e in
    rw (digits_last n n p, (char n (omega arith)).delim)
begins_by false at zero post e = absurd (omega (arith, ltb-false zero 32 e))
begins_by false at (suc f) post e =
    let p = ltb-false (suc f) 32 e in
    rw (digits_more f (suc f) p, (char (suc f % 32 + 32) (omega arith)).delim)

pub stands : (at n : ℕ) (post : List ℕ) → n < 2 ^ 65 → vlq_of at (write_of n ++ post) ≡ vlq_from at (num n (length (write_of n)))
stands at n post h = begins_by (ltb n 32) at n post refl ∙ ap (vlq_from at) (reads n post h)

-- the first byte is no delimiter
pub record Begins (n : ℕ) : Type 0 where
  pub byte : ℕ
  pub others : List ℕ
  pub is : write_of n ≡ byte ∷ others
  pub delim : is_delim byte ≡ false

starts_by : (t : Bool) (n : ℕ) → ltb n 32 ≡ t → Begins n
starts_by true n e =
    let p = ltb-true n 32 e in
    record { byte = char_of n; others = []; is = digits_last n n p; delim = (char n (omega arith)).delim }
starts_by false zero e = absurd (omega (arith, ltb-false zero 32 e))
starts_by false (suc f) e =
    let p = ltb-false (suc f) 32 e in
    record {
      byte = char_of (suc f % 32 + 32);
      others = digits_of f (suc f / 32);
      is = digits_more f (suc f) p;
      delim = (char (suc f % 32 + 32) (omega arith)).delim;
    }

pub starts : (n : ℕ) → Begins n
starts n = starts_by (ltb n 32) n refl

-- no bytes that read as n have fewer digits
pub fewest : (l : List ℕ) (left n len : ℕ) → digits_from left l ≡ num n len → length (write_of n) ≤ len
fewest l left n len e = few n len n (tail_size l left n len e).0 (tail_under l left n len e)
