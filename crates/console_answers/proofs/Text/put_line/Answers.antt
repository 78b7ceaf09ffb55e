-- A number has at most ten digits, so there is room for both; the parts stand one behind the other.
use Rattle.std.proofs.Common.{arith}
use Rattle.console_answers.proofs.Decimal.{decimal_short}
use Rattle.console_answers.proofs.Putting.{puts_then, puts_room}
use Rattle.console_answers.proofs.Text.put_line.Goals as goal

pub put_number-requires : goal.put_number-requires
put_number-requires c =
    let word = puts_room c.put.ensures (omega arith) in
    let tab = puts_room c.put-2.ensures (omega arith) in
    omega (arith, decimal_short c.args.first)

pub put-requires-3 : goal.put-requires-3
put-requires-3 c =
    let word = puts_room c.put.ensures (omega arith) in
    let tab = puts_room c.put-2.ensures (omega arith) in
    let first = puts_room c.put_number.ensures (omega (arith, decimal_short c.args.first)) in
    omega (arith, decimal_short c.args.first)

pub put_number-requires-2 : goal.put_number-requires-2
put_number-requires-2 c =
    let word = puts_room c.put.ensures (omega arith) in
    let tab = puts_room c.put-2.ensures (omega arith) in
    let first = puts_room c.put_number.ensures (omega (arith, decimal_short c.args.first)) in
    let tab_2 = puts_room c.put-3.ensures (omega (arith, decimal_short c.args.first)) in
    omega (arith, decimal_short c.args.first, decimal_short c.args.second)

pub put-requires-4 : goal.put-requires-4
put-requires-4 c =
    let word = puts_room c.put.ensures (omega arith) in
    let tab = puts_room c.put-2.ensures (omega arith) in
    let first = puts_room c.put_number.ensures (omega (arith, decimal_short c.args.first)) in
    let tab_2 = puts_room c.put-3.ensures (omega (arith, decimal_short c.args.first)) in
    let second = puts_room c.put_number-2.ensures (omega (arith, decimal_short c.args.first, decimal_short c.args.second)) in
    omega (arith, decimal_short c.args.first, decimal_short c.args.second)

pub returns : goal.returns
returns c =
    puts_then c.put.ensures
    (puts_then c.put-2.ensures (puts_then c.put_number.ensures (puts_then c.put-3.ensures (puts_then c.put_number-2.ensures c.put-4.ensures))))
