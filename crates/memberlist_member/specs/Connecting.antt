-- Connections, and what came over them.
use Rattle.std.specs.Prelude.{◌≡◌, ℕ, ◌+◌, ◌*◌, ◌-◌, ◌/◌, ◌^◌, ◌==◌, Bool, not, ◌||◌, length, min, nat_le, nat_lt}
use Rattle.memberlist_member.specs.declared.connections.Connection.{Connection}

-- it has this number
abbrev pub has_conn : ℕ → Connection → Bool
has_conn conn connection = connection.conn == conn

-- what it is for stays, and what is to be written, and when it is closed
pub record StaysOpen (old new : Connection) : Type 0 where
  pub conn : new.conn ≡ old.conn
  pub purpose : new.purpose ≡ old.purpose
  pub first : new.first ≡ old.first
  pub due : new.due ≡ old.due

-- there are a quarter more bytes than when they were last looked at
abbrev pub has_grown : Connection → ℕ → Bool
has_grown old came = nat_le (old.looked + old.looked / 4) came

-- all that came is looked at: again only after more bytes, or never
pub record IsLookedAt (new : Connection) : Type 0 where
  pub looked : new.looked ≡ length new.came.items
  pub never : new.look_at ≡ new.due

-- it is looked at later, if no more bytes come
pub record IsLookedAtLater (now : ℕ) (old new : Connection) : Type 0 where
  pub looked : new.looked ≡ old.looked
  pub later : new.look_at ≡ min (now + old.look_after) (2 ^ 64 - 1)

-- there are bytes that were not looked at, and it is time to
abbrev pub looks_now : ℕ → Connection → Bool
looks_now now c = not (nat_lt now c.look_at || (c.looked == length c.came.items))

-- the connection after that: after twice as long the next time
abbrev pub looked_at : Connection → Connection
looked_at c =
    record c {
      looked = length c.came.items;
      look_at = c.due;
      look_after = min (c.look_after * 2) (2 ^ 64 - 1);
    }

-- its time is over
abbrev pub is_overdue : ℕ → Connection → Bool
is_overdue now c = nat_le c.due now
