use Rattle.std.proofs.Common.{◌≡◌, ◌⊎◌, inl, inr, None, ap}
use Rattle.command_base.specs.Replies.{line_of}
use Rattle.command_base.specs.declared.status.Status.{Status}
use Rattle.command_base.specs.declared.status.Status.TheVariants.{Answered, Refused, IndexRefused, WriteFault, InputFault, InputTooLong, Stopped}
use Rattle.index_cmd.proofs.Outcomes.{no_line, line_said}
use Rattle.index_cmd.proofs.top.end.Goals as goal

pub returns-in-Answered-clause-ends : goal.returns-in-Answered-clause-ends
returns-in-Answered-clause-ends g c = no_line c.args.status (g.K.Sink.written c.args.out.now) _ (by c.args.status c.in-Answered.is)
  where
    by : (s : Status) → (s ≡ Answered) ⊎ (s ≡ Refused) ⊎ (s ≡ IndexRefused) ⊎ (s ≡ WriteFault) ⊎ (s ≡ InputFault) ⊎ (s ≡ InputTooLong) ⊎ (s ≡ Stopped) → line_of s ≡ None
    by s (inl e) = ap line_of e
    by s (inr (inl e)) = ap line_of e
    by s (inr (inr (inl e))) = ap line_of e
    by s (inr (inr (inr (inl e)))) = ap line_of e
    by s (inr (inr (inr (inr (inl e))))) = ap line_of e
    by s (inr (inr (inr (inr (inr (inl e)))))) = ap line_of e
    by s (inr (inr (inr (inr (inr (inr e)))))) = ap line_of e

pub returns-in-TableRefused-clause-ends : goal.returns-in-TableRefused-clause-ends
returns-in-TableRefused-clause-ends g c = no_line c.args.status (g.K.Sink.written c.args.out.now) _ (ap line_of c.in-TableRefused.is)

pub returns-in-Usage-clause-ends : goal.returns-in-Usage-clause-ends
returns-in-Usage-clause-ends g c = line_said c.args.status c.say.result (g.K.Sink.written c.args.out.now) (g.K.Sink.written c.say.new.out) _ _ (ap line_of c.in-Usage.is) c.say.ensures.said c.say.ensures.either c.say.ensures.fault c.say.ensures.left

pub returns-in-ReadFault-clause-ends : goal.returns-in-ReadFault-clause-ends
returns-in-ReadFault-clause-ends g c = line_said c.args.status c.say-in-ReadFault.result (g.K.Sink.written c.args.out.now) (g.K.Sink.written c.say-in-ReadFault.new.out) _ _ (ap line_of c.in-ReadFault.is) c.say-in-ReadFault.ensures.said c.say-in-ReadFault.ensures.either c.say-in-ReadFault.ensures.fault c.say-in-ReadFault.ensures.left

pub returns-in-NoMemory-clause-ends : goal.returns-in-NoMemory-clause-ends
returns-in-NoMemory-clause-ends g c = line_said c.args.status c.say-in-NoMemory.result (g.K.Sink.written c.args.out.now) (g.K.Sink.written c.say-in-NoMemory.new.out) _ _ (ap line_of c.in-NoMemory.is) c.say-in-NoMemory.ensures.said c.say-in-NoMemory.ensures.either c.say-in-NoMemory.ensures.fault c.say-in-NoMemory.ensures.left

pub returns-in-FileTooBig-clause-ends : goal.returns-in-FileTooBig-clause-ends
returns-in-FileTooBig-clause-ends g c = line_said c.args.status c.say-in-FileTooBig.result (g.K.Sink.written c.args.out.now) (g.K.Sink.written c.say-in-FileTooBig.new.out) _ _ (ap line_of c.in-FileTooBig.is) c.say-in-FileTooBig.ensures.said c.say-in-FileTooBig.ensures.either c.say-in-FileTooBig.ensures.fault c.say-in-FileTooBig.ensures.left

pub returns-in-StoreFault-clause-ends : goal.returns-in-StoreFault-clause-ends
returns-in-StoreFault-clause-ends g c = line_said c.args.status c.say-in-StoreFault.result (g.K.Sink.written c.args.out.now) (g.K.Sink.written c.say-in-StoreFault.new.out) _ _ (ap line_of c.in-StoreFault.is) c.say-in-StoreFault.ensures.said c.say-in-StoreFault.ensures.either c.say-in-StoreFault.ensures.fault c.say-in-StoreFault.ensures.left

pub returns-in-IndexTooLarge-clause-ends : goal.returns-in-IndexTooLarge-clause-ends
returns-in-IndexTooLarge-clause-ends g c = line_said c.args.status c.say-in-IndexTooLarge.result (g.K.Sink.written c.args.out.now) (g.K.Sink.written c.say-in-IndexTooLarge.new.out) _ _ (ap line_of c.in-IndexTooLarge.is) c.say-in-IndexTooLarge.ensures.said c.say-in-IndexTooLarge.ensures.either c.say-in-IndexTooLarge.ensures.fault c.say-in-IndexTooLarge.ensures.left

pub returns-in-AlreadyIndexed-clause-ends : goal.returns-in-AlreadyIndexed-clause-ends
returns-in-AlreadyIndexed-clause-ends g c = line_said c.args.status c.say-in-AlreadyIndexed.result (g.K.Sink.written c.args.out.now) (g.K.Sink.written c.say-in-AlreadyIndexed.new.out) _ _ (ap line_of c.in-AlreadyIndexed.is) c.say-in-AlreadyIndexed.ensures.said c.say-in-AlreadyIndexed.ensures.either c.say-in-AlreadyIndexed.ensures.fault c.say-in-AlreadyIndexed.ensures.left

pub returns-in-TooManySections-clause-ends : goal.returns-in-TooManySections-clause-ends
returns-in-TooManySections-clause-ends g c = line_said c.args.status c.say-in-TooManySections.result (g.K.Sink.written c.args.out.now) (g.K.Sink.written c.say-in-TooManySections.new.out) _ _ (ap line_of c.in-TooManySections.is) c.say-in-TooManySections.ensures.said c.say-in-TooManySections.ensures.either c.say-in-TooManySections.ensures.fault c.say-in-TooManySections.ensures.left
