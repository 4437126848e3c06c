-- What a reader of requests keeps of them that is not known.
use Rattle.std.specs.Prelude.{◌≡◌, ◌≢◌, ◌⊎◌, ℕ, ◌<◌, ◌≤◌, List, [], Option, Some, None}
use Rattle.git_pkt.specs.Packets.{Pkt}
use Rattle.git_pkt.specs.declared.fault.Kind.{Kind}
use Rattle.git_pkt.specs.declared.fault.Kind.TheVariants.{OutOfMemory, TooMuchKept}
use Rattle.git2show_lib.specs.OtherLines.{Noted, noted_with, shown_at}
use Rattle.git2show_lib.specs.declared.other_lines.OtherLines.{OtherLines}
use Rattle.git2show_lib.specs.declared.others.Place.{Place}

abbrev pub noted_in : {A : Type 0} → OtherLines A → Noted
noted_in o = record { lines = o.lines.items; asks = o.asks }

-- why a line is not kept, where so many bytes would count as kept with it: they are more than the limit; or there was no memory for a line that
-- is shown
abbrev pub IsNotKept : Kind → (kept limit : ℕ) → (shown : List ℕ) → Type 0
IsNotKept kind kept limit shown = ((kind ≡ TooMuchKept) × (limit < kept)) ⊎ ((kind ≡ OutOfMemory) × (kept ≤ limit) × (shown ≢ []))

-- a packet is noted, or its line is not kept for this reason
abbrev pub KeepsWithin : Option Kind → List ℕ → Place → Pkt → (kept limit : ℕ) → Noted → Noted → Type 0
KeepsWithin None text place packet kept limit old new = (kept ≤ limit) × (new ≡ noted_with text place old packet)
KeepsWithin (Some kind) text place packet kept limit old new = IsNotKept kind kept limit (shown_at text place packet)
