-- The capabilities noted after one more line, or one more word of its value.
use Rattle.std.proofs.Common.{◌≡◌, ℕ, Bool, true, false, ◌||◌, List, [], ◌∷◌, refl}
use Rattle.git_pkt.specs.Packets.{Pkt, payload, text_of}
use Rattle.git_msg.specs.Advertisement.{key_of, value_of, noted_after, noted_of, noted_with}
use Rattle.git_msg.specs.Arguments.{name_of}
use Rattle.git_msg.specs.declared.arguments.Command.{Command}
use Rattle.git_msg.specs.declared.arguments.Command.TheVariants.{LsRefs, Fetch, ObjectInfo}
use Rattle.git_msg.specs.declared.offers.Caps.{Caps}

or_false : (b : Bool) → (b || false) ≡ b
or_false true = refl
or_false false = refl

or_swap : (a b c : Bool) → (b || (a || c)) ≡ ((a || b) || c)
or_swap true true c = refl
or_swap true false c = refl
or_swap false b c = refl

pub noted_with_is : (caps : Caps) (packets : List Pkt) (line key value : List ℕ)
    → caps ≡ noted_of packets → key_of (text_of line) ≡ key → value ≡ value_of (text_of line)
    → noted_with caps key value ≡ noted_of (payload line ∷ packets)
noted_with_is caps packets line key value same k v = rw (same, v, ← k) refl

-- words of a line's value are noted one after another
pub more_words : (caps : Caps) (command : Command) (value word : List ℕ) (words : List (List ℕ))
    → noted_after (noted_after caps (name_of command) value (word ∷ [])) (name_of command) value words
    ≡ noted_after caps (name_of command) value (word ∷ words)
more_words caps LsRefs value word words = simp (or_false, or_swap)
more_words caps Fetch value word words = simp (or_false, or_swap)
more_words caps ObjectInfo value word words = refl
