use Rattle.std.proofs.Common.{arith}
use Rattle.text.proofs.Puts.{digits_none, digits_one, digits_more}
use Rattle.text.proofs.+put_digits.Goals as goal

pub returns-then-more-eq0 : goal.returns-then-more-eq0
returns-then-more-eq0 t c = digits_none c.args.more c.args.n (omega arith) c.put_byte.ensures

pub returns-then-n-lt10 : goal.returns-then-n-lt10
returns-then-n-lt10 t c = digits_one c.args.more c.args.n c.if-more-eq0.false c.if-n-lt10.true c.put_byte-then-n-lt10.ensures

pub returns : goal.returns
returns t c = digits_more c.args.more c.args.n c.if-more-eq0.false c.if-n-lt10.false c.put_digits-next.ensures c.put_byte-2.ensures
