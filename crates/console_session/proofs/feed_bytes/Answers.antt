-- One byte more is fed.
use Rattle.std.proofs.Common.{rules, refl}
use Rattle.console_answers.proofs.Putting.{put_none, put_then}
use Rattle.console_session.specs.Session.{fed_all, line_fed}
use Rattle.console_session.proofs.Feeding.{fed_one, text_one, line_one}
use Rattle.console_session.proofs.feed_bytes.Goals as goal

pub loop-b-init : goal.loop-b-init
unfolding fed_all line_fed
loop-b-init c = record {
  state = refl;
  buffers = record { line = refl; out = put_none _ _ };
  feeding = search rules;
  same = search rules;
}

pub loop-b-preserved : goal.loop-b-preserved
loop-b-preserved c =
    let fed = c.feed_byte-session.ensures in
    let inv = c.loop-b.invariant in
    let more = c.loop-b-test.true in
    record {
      state = rw (fed_one _ _ _ more, ← inv.state) fed.state;
      buffers = record {
        line = rw (line_one _ _ _ more, ← inv.buffers.line) fed.buffers.line;
        out = rw (text_one _ _ _ more, ← inv.state) (put_then inv.buffers.out fed.buffers.out);
      };
      feeding = search rules;
      same = search rules;
    }
