-- The negotiation of the device id, for readers: document 01, "Registers", "0 ID (.. any other value is taken and changes nothing, so negotiation works ..)".
use Rattle.std.specs.Prelude.{ℕ, zero, suc, ◌-◌, cond, List, eqb}
use Rattle.std.proofs.Math.Option.{Option, none, some}
use Rattle.device.specs.declared.Device.{Device}
use Rattle.register_write.specs.Registers.{written}
use Rattle.register_read.specs.Registers.{read_of}

-- the stored id
abbrev pub id_of : Device → ℕ
id_of d = d.registers.id

-- What a negotiation gives: the id that was agreed on, if one was, and the device that is left.
pub record Negotiated : Type 0 where
  pub agreed : Option ℕ
  pub device : Device

-- The source text's loop: "Write into SVGA_REG_ID the maximum SVGA_ID_* the driver supports. Read from SVGA_REG_ID. Check if it is the value you
-- wrote. If yes, VMware SVGA device supports it. If no, decrement SVGA_ID_* and goto loop". At most so many times; none agreed on where the times run out.
unfoldable pub negotiated : ℕ → Device → List ℕ → ℕ → Negotiated
negotiated zero d ring v = record { agreed = none; device = d }
negotiated (suc n) d ring v =
    let e = (written d ring 0 v).device in
    cond (eqb (read_of e 0).value v) (record { agreed = some v; device = e }) (negotiated n e ring (v - 1))
