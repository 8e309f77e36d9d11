-- `dump::render_text` meets its contract, by the laws of `Report`. Assumes nothing.
use mathlib.Core.Path.{ap}
use Prim.Native.Nat.{ℕ}
use lib.ListN.{length-replicate}
use Rattle.token.specs.Table.{places}
use Rattle.dump.proofs.Report.{tokens_fit, end_fits, reported}
use Rattle.dump.proofs.Room.{written_fit}
use Rattle.dump.proofs.render_text.Goals as goal

pub put_tokens-after_tokens-requires : goal.put_tokens-after_tokens-requires
put_tokens-after_tokens-requires c = record {
  n_bound = written_fit _ _ _ _ _ _ _ c.decode_lenient-d.ensures;
  n_in_bounds = tokens_fit _ _ _ _ (ap places (length-replicate {A = ℕ} 7168 0)) _ _ c.decode_lenient-d.ensures c.args.out.now c.requires _ _ c.put_count-after_count.ensures;
}

pub put_end-requires : goal.put_end-requires
put_end-requires c = end_fits _ _ _ _ (ap places (length-replicate {A = ℕ} 7168 0)) _ _ c.decode_lenient-d.ensures c.args.out.now c.requires _ _ c.put_count-after_count.ensures _ _ c.put_tokens-after_tokens.ensures

pub returns : goal.returns
returns c = reported _ _ _ _ (ap places (length-replicate {A = ℕ} 7168 0)) _ _ c.decode_lenient-d.ensures c.args.out.now c.requires _ _ c.put_count-after_count.ensures _ _ c.put_tokens-after_tokens.ensures _ _ c.put_end.ensures
