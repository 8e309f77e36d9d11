-- Helpers: what inner contracts and proofs need; no contract of an entry and no theorem reaches this file.
-- Covers: numbers that no token under them passes. Assumes nothing.
use Rattle.std.specs.Prelude.{◌≡◌, ℕ, ◌+◌, ◌%◌, ◌^◌, Bool, true, false, bit_or, nat_lt}
use Rattle.list.specs.Pick.{pick}
use Rattle.token.specs.declared.Token.{Token}
use Rattle.translate.specs.Translate.{too_big}
use Rattle.translate.specs.declared.Cover.{Cover}

abbrev pub no_cover : Cover
no_cover = record { line = 0; source = 0; name = 0 }

-- an id counted from 1: none is 0
abbrev pub from_one : ℕ → ℕ
from_one id = (id + 1) % 2 ^ 32

-- the cover with one more token under it: a number is at most what its bits make together with others
unfoldable pub cover_with : Cover → Token → Cover
cover_with c t =
    record {
      line = bit_or c.line t.dst_line;
      source = bit_or c.source (from_one t.source_id);
      name = bit_or c.name (from_one t.name_id);
    }

abbrev pub passes : ℕ → ℕ → Bool
passes n offset = nat_lt 4294967295 (n + offset)

-- no sum passes 4,294,967,295
unfoldable pub cover_fits : ℕ → ℕ → ℕ → Cover → Bool
cover_fits line source name c =
    pick (passes c.line line) false (pick (passes c.source source) false (pick (passes c.name name) false true))

-- r lies over two tokens and over all that c lies over: by whatever it may be moved, they may
pub record Over (c : Cover) (t u : Token) (r : Cover) : Type 0 where
  pub kept : (line source name : ℕ) → cover_fits line source name r ≡ true → cover_fits line source name c ≡ true
  pub one : (line source name : ℕ) → cover_fits line source name r ≡ true → too_big line source name t ≡ false
  pub two : (line source name : ℕ) → cover_fits line source name r ≡ true → too_big line source name u ≡ false
