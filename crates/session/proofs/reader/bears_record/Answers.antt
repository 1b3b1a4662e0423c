use Rattle.session.proofs.Readers as laws
use Rattle.session.proofs.reader.bears_record.Goals as goal

pub returns-then-kind-ne-READ_REPLY : goal.returns-then-kind-ne-READ_REPLY
returns-then-kind-ne-READ_REPLY c = laws.bears_not _ _ _ c.args.f.read c.if-kind-ne-READ_REPLY.true

pub returns : goal.returns
returns c = laws.bears_last _ _ _ _ _ c.args.f.read c.if-kind-ne-READ_REPLY.false c.head_bytes-at.ensures c.record_length.ensures.0
