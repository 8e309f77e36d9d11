-- Helpers: what inner contracts and proofs need; no contract of an entry and no theorem reaches this file.
-- What a token is held to. Assumes nothing.
use Rattle.list.specs.Pick.{pick}
use Rattle.token.specs.Table.{is_none}
use Rattle.token.specs.declared.Token.{Token}
use Rattle.premises.specs.declared.Before.{Before}

-- behind a token: its line, and its source position where it has a source
abbrev pub before_next : Before → Token → Before
before_next b t =
    record {
      line = t.dst_line;
      src_line = pick (is_none t.source_id) b.src_line t.src_line;
      src_col = pick (is_none t.source_id) b.src_col t.src_col;
    }
