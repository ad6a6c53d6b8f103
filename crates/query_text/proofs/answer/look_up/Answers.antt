use Rattle.std.proofs.Common.{ℕ, List, subst}
use Rattle.outside.specs.Written.{Appends, AppendsPrefix}
use Rattle.index_model.specs.Seen.{query_seen}
use Rattle.query_text.proofs.LookLaws.{look_fits, look_gains, look_said}
use Rattle.query_text.proofs.answer.look_up.Goals as goal

pub write_look-requires-clause-fit : goal.write_look-requires-clause-fit
write_look-requires-clause-fit g c =
    look_fits c.args.reader.now c.query.follows.lender-at-none (query_seen c.args.query.now) c.query.result c.in-Ok.look c.in-Ok.is c.query.follows.holds-at-none

pub returns-in-Ok-write_look-clause-ok : goal.returns-in-Ok-write_look-clause-ok
returns-in-Ok-write_look-clause-ok g c =
    let q = query_seen c.args.query.now in (
      look_gains c.args.reader.now c.query.follows.lender-at-none q c.query.result c.in-Ok.look c.in-Ok.is c.query.follows.holds-at-none,
      subst (λ (t : List ℕ). Appends (g.K.Sink.written c.args.out.now) (g.K.Sink.written c.write_look.new.out) t)
          (look_said c.args.reader.now c.query.follows.lender-at-none q c.query.result c.in-Ok.look c.in-Ok.is c.query.follows.holds-at-none c.args.spelling) c.in-Ok-write_look.ensures.ok,
    )

pub returns-in-Err-write_look-clause-err : goal.returns-in-Err-write_look-clause-err
returns-in-Err-write_look-clause-err g c =
    let q = query_seen c.args.query.now in (
      c.in-Err-write_look.ensures.failed,
      record {
        mark = c.in-Ok.look.stage;
        gained = look_gains c.args.reader.now c.query.follows.lender-at-none q c.query.result c.in-Ok.look c.in-Ok.is c.query.follows.holds-at-none;
        text =
            subst (λ (t : List ℕ). AppendsPrefix (g.K.Sink.written c.args.out.now) (g.K.Sink.written c.write_look.new.out) t)
            (look_said c.args.reader.now c.query.follows.lender-at-none q c.query.result c.in-Ok.look c.in-Ok.is c.query.follows.holds-at-none c.args.spelling) c.in-Err-write_look.ensures.left;
      },
    )
