-- The five returns are the ends of a write.
use Rattle.std.specs.Prelude.{Option, Some, None, Ok}
use Rattle.std.proofs.Common.{◌≡◌, ◌<◌, ◌≤◌, ◌+◌, ◌-◌, ◌*◌, ◌/◌, true, ◌&&◌, eqb, ℕ, List, length, get_or, set, sym, ap, ap₂, ◌∙◌, arith}
use Rattle.ring.specs.Acceptance.{min_of, max_of, next_of, usable, Usable}
use Rattle.ring.specs.Waiting.{ahead, carried}
use Rattle.ring.proofs.Laws.{usable_when}
use Rattle.ring.proofs.WaitingLaws.{InRing, ahead_in}
use Rattle.writer.specs.declared.Asked.{Asked}
use Rattle.writer.specs.declared.Room.{Room}
use Rattle.writer.specs.Writing.{Command, command, command_words, carried_in, free_words, written, write_of}
use Rattle.writer.specs.Laying.{laid, asked}
use Rattle.writer.proofs.RoomLaws.{free_waiting}
use Rattle.writer.proofs.Ends.{write_unusable, write_no_command, write_other_length, write_no_room, write_taken}
use Rattle.writer.proofs.Ends.{few_words, all_words, few_bytes}
use Rattle.writer.proofs.write.Goals as goal

-- the room of a ring
abbrev RoomOf : List ℕ → Room → Type 0
RoomOf ring r = (r.next.lo ≡ min_of ring / 4) × (r.next.hi ≡ max_of ring / 4) × (r.next.at ≡ next_of ring / 4) × (r.free ≡ free_words ring)

-- what the head asks for there is what it asks for in the ring
asked_there : (ring head : List ℕ) (r : Room) (a : Option Asked) → RoomOf ring r → a ≡ asked (r.next.hi - r.next.lo - 1) head → a ≡ asked (carried_in ring) head
asked_there ring head r a e is = is ∙ ap₂ (λ lo hi. asked (carried lo hi) head) e.0 e.1

-- a command that passed every test
record Past (ring : List ℕ) (given : Command) (r : Room) (a : Asked) : Type 0 where
  good : usable ring ≡ true
  room : RoomOf ring r
  is : Some a ≡ asked (carried_in ring) given.head
  lent : eqb (length given.pixels) a.pixels && eqb (length given.bytes) a.bytes ≡ true
  free : a.words ≤ free_words ring

past : (ring : List ℕ) (given : Command) (r : Room) (a : Asked) → usable ring ≡ true → RoomOf ring r → Some a ≡ asked (r.next.hi - r.next.lo - 1) given.head
    → eqb (length given.pixels) a.pixels && eqb (length given.bytes) a.bytes ≡ true → a.words ≤ r.free → Past ring given r a
past ring given r a good e is lent free = record {
  good = good;
  room = e;
  is = asked_there ring given.head r (Some a) e is;
  lent = lent;
  free = omega (arith, free, e.3);
}

module _ {ring : List ℕ} {given : Command} {r : Room} {a : Asked} (p : Past ring given r a) where
  ring_known : Usable ring
  ring_known = usable_when ring p.good

  size : length (command_words given) ≡ a.words
  size = all_words ring given p.good a p.is p.lent

  whole : (2 ≤ length given.head) × (length given.head ≤ 8)
  whole = few_words ring given p.good a p.is

  few : get_or given.head 2 0 < 4294967296 → length given.bytes ≤ 4294967295
  few = few_bytes ring given p.good a p.is p.lent

  -- "never filling the last word"
  held : InRing r.next.lo r.next.hi r.next.at (length (command_words given) + 1)
  held =
      let u = ring_known in
      let e = p.room in
      let all = free_waiting ring u in
      record { from = omega arith; below = omega arith; held = omega (arith, p.free, size) }

  behind : ahead r.next.lo r.next.hi r.next.at (length (command_words given)) < r.next.hi
  behind =
      (ahead_in r.next.lo r.next.hi r.next.at (length (command_words given))
      (record { from = held.from; below = held.below; held = omega (arith, held.held) })
      ).1

  fits : (r.next.hi ≤ length ring) × (4 ≤ r.next.lo)
  fits = let u = ring_known in let e = p.room in (omega arith, omega arith)

  taken : written (Ok tt) (set (laid r.next.lo r.next.hi r.next.at (command_words given) ring) 2 (ahead r.next.lo r.next.hi r.next.at (length (command_words given)) * 4))
      ≡ write_of ring given
  taken = write_taken ring given p.good a p.is p.lent p.free r.next.lo r.next.hi r.next.at p.room.0 p.room.1 p.room.2

pub returns-then-not-is_usable : goal.returns-then-not-is_usable
returns-then-not-is_usable c = write_unusable _ _ (sym c.if-not-is_usable.ensures)

pub returns-in_default : goal.returns-in_default
returns-in_default c =
    let a = c.args in
    write_no_command _ _ (sym c.if-not-is_usable.ensures)
    (asked_there a.ring.now a.head.now c.room_in-room.result None c.room_in-room.ensures c.in_default.ensures)

pub returns-then-not-lent_good : goal.returns-then-not-lent_good
returns-then-not-lent_good c =
    let a = c.args in
    let is = asked_there a.ring.now a.head.now c.room_in-room.result (Some c.in-Some.asked) c.room_in-room.ensures c.in-Some.ensures in
    write_other_length _ _ (sym c.if-not-is_usable.ensures) _ is (sym c.if-not-lent_good.ensures)

pub returns-then-room-asked : goal.returns-then-room-asked
returns-then-room-asked c =
    let a = c.args in
    let is = asked_there a.ring.now a.head.now c.room_in-room.result (Some c.in-Some.asked) c.room_in-room.ensures c.in-Some.ensures in
    write_no_room _ _ (sym c.if-not-is_usable.ensures) _ is (sym c.if-not-lent_good.ensures)
    (omega (arith, c.if-room-asked.true, c.room_in-room.ensures.3))

pub put_words-behind-requires-clause-held : goal.put_words-behind-requires-clause-held
put_words-behind-requires-clause-held c =
    let a = c.args in
    let given = command a.head.now a.pixels.now a.bytes.now in
    let p = past a.ring.now given c.room_in-room.result c.in-Some.asked (sym c.if-not-is_usable.ensures) c.room_in-room.ensures c.in-Some.ensures
    (sym c.if-not-lent_good.ensures) c.if-room-asked.false in
    let h = held p in
    record { from = h.from; below = h.below; fits = (fits p).0 }

pub put_words-behind-requires-clause-in_bounds : goal.put_words-behind-requires-clause-in_bounds
put_words-behind-requires-clause-in_bounds c =
    let a = c.args in
    let given = command a.head.now a.pixels.now a.bytes.now in
    let p = past a.ring.now given c.room_in-room.result c.in-Some.asked (sym c.if-not-is_usable.ensures) c.room_in-room.ensures c.in-Some.ensures
    (sym c.if-not-lent_good.ensures) c.if-room-asked.false in
    ((fits p).1, (whole p).0, (whole p).1, few p (omega (arith, c.type_inv.head 2)), omega (arith, (held p).held))

pub publish-requires : goal.publish-requires
publish-requires c =
    let a = c.args in
    let given = command a.head.now a.pixels.now a.bytes.now in
    let p = past a.ring.now given c.room_in-room.result c.in-Some.asked (sym c.if-not-is_usable.ensures) c.room_in-room.ensures c.in-Some.ensures
    (sym c.if-not-lent_good.ensures) c.if-room-asked.false in
    let u = ring_known p in
    let b = behind p in
    let e = p.room in
    let m : get_or a.ring.now 1 0 < 4294967296 = grind arith in
    (omega arith, omega arith)

pub returns : goal.returns
returns c =
    let a = c.args in
    let given = command a.head.now a.pixels.now a.bytes.now in
    let p = past a.ring.now given c.room_in-room.result c.in-Some.asked (sym c.if-not-is_usable.ensures) c.room_in-room.ensures c.in-Some.ensures
    (sym c.if-not-lent_good.ensures) c.if-room-asked.false in
    let w = c.put_words-behind.ensures in
    ap (written (Ok tt)) (c.publish.ensures ∙ ap₂ (λ l k. set l 2 (k * 4)) w.ring_after w.value) ∙ taken p
