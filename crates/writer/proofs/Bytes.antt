-- Bytes in words, lowest first: what is read of data is the data.
-- Assumes nothing.
use mathlib.Core.Path.{◌≡◌, refl, sym, ap, ◌∙◌}
use mathlib.Core.List.{List, ◌++◌}
use Prim.Native.Nat.{ℕ, zero, suc, ◌+◌, ◌*◌, ◌/◌, ◌%◌, ◌^◌, ◌<◌}
use native.Mathlib.Omega.{arith}
use lib.ListN.{length, get_or, get_or-append}
use Rattle.geometry.specs.Pixels.{tabulate}
use Rattle.geometry.proofs.Tabulate.{is_tabulate}
use Rattle.writer.specs.Writing.{word_from, data_words}
use Rattle.writer.specs.Reading.{byte_of}
use Rattle.writer.proofs.Laying.{length_data, data_word}

-- byte r of a word of four bytes a, b, c, d
byte_in : (a b c d r : ℕ) → a < 256 → b < 256 → c < 256 → d < 256 → r < 4
    → (x : ℕ) → (r ≡ 0 → x ≡ a) → (r ≡ 1 → x ≡ b) → (r ≡ 2 → x ≡ c) → (r ≡ 3 → x ≡ d)
    → (a + 256 * b + 65536 * c + 16777216 * d) / 256 ^ r % 256 ≡ x
byte_in a b c d zero p q s t l x e f g h = let y : x ≡ a = e refl in omega arith
byte_in a b c d (suc zero) p q s t l x e f g h = let y : x ≡ b = f refl in omega arith
byte_in a b c d (suc (suc zero)) p q s t l x e f g h = let y : x ≡ c = g refl in omega arith
byte_in a b c d (suc (suc (suc zero))) p q s t l x e f g h = let y : x ≡ d = h refl in omega arith
byte_in a b c d (suc (suc (suc (suc r)))) p q s t l x e f g h = absurd (omega arith)

module _ (bytes : List ℕ) (small : (i : ℕ) → get_or bytes i 0 < 256) where
  -- byte k stands in word k / 4, and 0 behind the last byte
  pub byte_at : (v : List ℕ) (k : ℕ) → k < 4 * length (data_words bytes) → get_or bytes k 0 ≡ byte_of (data_words bytes ++ v) k
  byte_at v k h =
      let n = length_data bytes in
      let q = k / 4 in
      let word : get_or (data_words bytes ++ v) q 0 ≡ word_from bytes (4 * q) =
      get_or-append (data_words bytes) v 0 q (omega arith) ∙ data_word bytes q (omega arith) in
      let at : (i r : ℕ) → i ≡ 4 * q + r → k % 4 ≡ r → get_or bytes k 0 ≡ get_or bytes i 0 = λ i r p e. ap (λ j. get_or bytes j 0) (omega arith) in
      rw word
      (sym (byte_in _ _ _ _ (k % 4) (small (4 * q)) (small (4 * q + 1)) (small (4 * q + 2)) (small (4 * q + 3)) (omega arith) _
      (at (4 * q) 0 (omega arith)) (at (4 * q + 1) 1 refl) (at (4 * q + 2) 2 refl) (at (4 * q + 3) 3 refl)))

  -- "ESCAPE data being bytes, lowest first in each word": as many bytes of its words as there are, whatever stands behind them, are the data
  pub bytes_back : (v : List ℕ) (n : ℕ) → length bytes ≡ n → tabulate n (byte_of (data_words bytes ++ v)) ≡ bytes
  bytes_back v n e = sym (is_tabulate bytes n _ e (λ k h. byte_at v k (omega (arith, length_data bytes))))
