-- A payload is one greeting, and what was written of a path and a host is read back.
use Rattle.std.proofs.Common.{arith, ◌≡◌, ◌∙◌, ◌⊎◌, inl, inr, ℕ, zero, suc, List, [], ◌∷◌, ◌++◌, Option, Some, None, IfSome, codes}
use Rattle.std.proofs.Common.{length, get_or, drop, take, sym, ap, subst, refl, length-append}
use Rattle.std.proofs.Math.Seq.{take-append_seam}
use Rattle.std.proofs.lemmas.Bool.{cases_lt}
use Rattle.git_names.specs.RefName.{Lacks}
use Rattle.git_pkt.specs.Packets.{longest_payload, payload, spelling_of}
use Rattle.git_msg.specs.Texts.{IsPartedAt}
use Rattle.git_msg.proofs.TextParts.{no_such_byte, one_parting}
use Rattle.gitwire.specs.Answers.{what_number}
use Rattle.gitwire.specs.Greetings.{AreParameters, Greeting, HandsOut, IsGreeting, ReadsGreeting, Shows, WritesGreeting, asking, command_text, greeting_text}
use Rattle.gitwire.specs.Greetings.{parameters_part, parameters_text, tail_text}
use Rattle.gitwire.specs.WrittenForC.{given}
use Rattle.gitwire.specs.declared.answer.GitwireAnswer.{GitwireAnswer}
use Rattle.gitwire.specs.declared.answer.What.TheVariants.{Done}
use Rattle.gitwire.specs.declared.greetings.GitwireGreeting.{GitwireGreeting}
use Rattle.gitwire.specs.declared.greetings.Service.{Service}
use Rattle.gitwire.specs.declared.greetings.Service.TheVariants.{UploadPack, ReceivePack, UploadArchive}
use Rattle.gitwire.proofs.GreetingParts.{greeting_parted, lacks_cons, no_host_part, parted_host}

same_texts : (all others : List (List ℕ)) → AreParameters all → AreParameters others → parameters_text all ≡ parameters_text others → all ≡ others
same_texts [] [] h k e = refl
same_texts [] (other ∷ others) h k e = absurd (omega (arith, ap length e, length-append other (0 ∷ parameters_text others)))
same_texts (one ∷ all) [] h k e = absurd (omega (arith, ap length e, length-append one (0 ∷ parameters_text all)))
same_texts (one ∷ all) (other ∷ others) h k e =
    let text : List ℕ = parameters_text (other ∷ others) in
    let here : IsPartedAt 0 text one (parameters_text all) = record { spelled = sym e; first = h.0.1 } in
    let there : IsPartedAt 0 text other (parameters_text others) = record { spelled = refl; first = k.0.1 } in
    let same = one_parting 0 text one other (parameters_text all) (parameters_text others) here there in
    ap (λ (l : List ℕ). l ∷ all) same.0 ∙ ap (λ (ls : List (List ℕ)). other ∷ ls) (same_texts all others h.1 k.1 same.1)

same_parts : (all others : List (List ℕ)) → AreParameters all → AreParameters others → parameters_part all ≡ parameters_part others → all ≡ others
same_parts [] [] h k e = refl
same_parts [] (other ∷ others) h k e = cc
same_parts (one ∷ all) [] h k e = cc
same_parts (one ∷ all) (other ∷ others) h k e = same_texts (one ∷ all) (other ∷ others) h k (ap (λ (l : List ℕ). drop 1 l) e)

-- two greetings' ends that are one text
same_tails : (host other : Option (List ℕ)) (all others : List (List ℕ)) → IfSome host (λ name. Lacks name 0) → IfSome other (λ name. Lacks name 0)
    → AreParameters all → AreParameters others → tail_text host all ≡ tail_text other others → (host ≡ other) × (all ≡ others)
same_tails None None all others h k are too e = (refl, same_parts all others are too e)
same_tails None (Some other) all others h k are too e = absurd (no_host_part all ((other ++ 0 ∷ []) ++ parameters_part others) (sym e))
same_tails (Some host) None all others h k are too e = absurd (no_host_part others ((host ++ 0 ∷ []) ++ parameters_part all) e)
same_tails (Some host) (Some other) all others h k are too e =
    let value : List ℕ = (other ++ 0 ∷ []) ++ parameters_part others in
    let here = parted_host value host all (sym e) h in
    let there = parted_host value other others refl k in
    let same = one_parting 0 value host other (parameters_part all) (parameters_part others) here there in
    (ap (λ (l : List ℕ). Some l) same.0, same_parts all others are too same.1)

at_byte : (i : ℕ) (text other : List ℕ) → text ≡ other → get_or text i 0 ≡ get_or other i 0
at_byte i text other e = ap (λ (l : List ℕ). get_or l i 0) e

same_commands : (service other : Service) (path another : List ℕ) → command_text service path ≡ command_text other another
    → (service ≡ other) × (path ≡ another)
same_commands UploadPack UploadPack path another e = (refl, ap (λ (l : List ℕ). drop 16 l) e)
same_commands ReceivePack ReceivePack path another e = (refl, ap (λ (l : List ℕ). drop 17 l) e)
same_commands UploadArchive UploadArchive path another e = (refl, ap (λ (l : List ℕ). drop 19 l) e)
same_commands UploadPack ReceivePack path another e = let clash : 117 ≡ 114 = at_byte 4 _ _ e in absurd (omega (arith, clash))
same_commands UploadPack UploadArchive path another e = let clash : 112 ≡ 97 = at_byte 11 _ _ e in absurd (omega (arith, clash))
same_commands ReceivePack UploadPack path another e = let clash : 114 ≡ 117 = at_byte 4 _ _ e in absurd (omega (arith, clash))
same_commands ReceivePack UploadArchive path another e = let clash : 114 ≡ 117 = at_byte 4 _ _ e in absurd (omega (arith, clash))
same_commands UploadArchive UploadPack path another e = let clash : 97 ≡ 112 = at_byte 11 _ _ e in absurd (omega (arith, clash))
same_commands UploadArchive ReceivePack path another e = let clash : 117 ≡ 114 = at_byte 4 _ _ e in absurd (omega (arith, clash))

-- a payload is one greeting
pub one_greeting_alone : (g h : Greeting) (bytes : List ℕ) → IsGreeting g bytes → IsGreeting h bytes → g ≡ h
one_greeting_alone g h bytes one other =
    let parts = one_parting 0 bytes (command_text g.service g.path) (command_text h.service h.path) (tail_text g.host g.parameters)
    (tail_text h.host h.parameters) (greeting_parted g bytes one) (greeting_parted h bytes other) in
    let commands = same_commands g.service h.service g.path h.path parts.0 in
    let tails = same_tails g.host h.host g.parameters h.parameters one.is_host other.is_host one.are_parameters other.are_parameters parts.1 in
    ap (λ (s : Service). record { service = s; path = g.path; host = g.host; parameters = g.parameters }) commands.0
    ∙ ap (λ (p : List ℕ). record { service = h.service; path = p; host = g.host; parameters = g.parameters }) commands.1
    ∙ ap (λ (n : Option (List ℕ)). record { service = h.service; path = h.path; host = n; parameters = g.parameters }) tails.0
    ∙ ap (λ (ps : List (List ℕ)). record { service = h.service; path = h.path; host = h.host; parameters = ps }) tails.1

decides_lacks : (text : List ℕ) → Lacks text 0 ⊎ (Lacks text 0 → ⊥)
decides_lacks [] = inl (λ k below. absurd (omega (arith, below)))
decides_lacks (zero ∷ text) = inr (λ h. h 0 (omega arith) refl)
decides_lacks (suc byte ∷ text) =
    elim (decides_lacks text) [
      | inl h ↦ inl (lacks_cons (suc byte) text (λ e. cc) h)
      | inr none ↦ inr (λ h. none (λ k below. h (suc k) (omega (arith, below))))
    ]

host_given : (host : List ℕ) → Lacks host 0 → IfSome (given host) (λ name. Lacks name 0)
host_given [] h = tt
host_given (byte ∷ host) h = h

is_asking : (path host : List ℕ) → Lacks path 0 → Lacks host 0 → IsGreeting (asking path host) (greeting_text (asking path host))
is_asking path host h k = record {
  spelled = refl;
  is_path = h;
  is_host = host_given host k;
  are_parameters = ((λ e. cc, no_such_byte 0 (codes "version=2") refl), tt);
}

-- what was written, and that it is a greeting
record IsWritten (path host : List ℕ) (written : GitwireAnswer) (filled : List ℕ) : Type 0 where
  is_greeting : IsGreeting (asking path host) (greeting_text (asking path host))
  there : drop 4 (take written.length filled) ≡ greeting_text (asking path host)

handed_out : (path host buffer filled : List ℕ) (written : GitwireAnswer) → Lacks path 0 → Lacks host 0
    → HandsOut (spelling_of (payload (greeting_text (asking path host)))) buffer written filled → written.kind ≡ what_number Done
    → IsWritten path host written filled
handed_out path host buffer filled written h k hands done =
    let bytes : List ℕ = spelling_of (payload (greeting_text (asking path host))) in
    elim (cases_lt (length buffer) (length bytes)) [
      | inr fits ↦ record {
        is_greeting = is_asking path host h k;
        there =
            ap (λ (l : List ℕ). drop 4 l)
            (ap (λ (answer : GitwireAnswer). take answer.length filled) (hands.done fits).0 ∙ ap (λ (l : List ℕ). take (length bytes) l) (hands.done fits).1
            ∙ take-append_seam bytes (drop (length bytes) buffer));
      }
      | inl small ↦ let clash : 4 ≡ 0 = sym (ap (λ (answer : GitwireAnswer). answer.kind) (hands.too_small small).0) ∙ done in absurd (omega (arith, clash))
    ]

written_well : (path host buffer filled : List ℕ) (written : GitwireAnswer) → WritesGreeting path host buffer written filled
    → written.kind ≡ what_number Done → IsWritten path host written filled
written_well path host buffer filled written writes done =
    let failed : written.kind ≡ 2 → ⊥ = λ e. let clash : 2 ≡ 0 = sym e ∙ done in omega (arith, clash) in
    elim (decides_lacks path) [
      | inr none ↦ absurd (failed (ap (λ (answer : GitwireAnswer). answer.kind) (writes.has_nul (λ both. none both.0)).0))
      | inl h ↦ elim (decides_lacks host) [
        | inr none ↦ absurd (failed (ap (λ (answer : GitwireAnswer). answer.kind) (writes.has_nul (λ both. none both.1)).0))
        | inl k ↦ elim (cases_lt longest_payload (length (greeting_text (asking path host)))) [
          | inr fits ↦ handed_out path host buffer filled written h k (writes.written h k fits) done
          | inl long ↦ absurd (failed (ap (λ (answer : GitwireAnswer). answer.kind) (writes.too_long h k long).0))
        ]
      ]
    ]

-- what was written of a path and a host is read back
pub read_back : (path host buffer filled : List ℕ) (written : GitwireAnswer) (shown : GitwireGreeting)
    → WritesGreeting path host buffer written filled → written.kind ≡ what_number Done → ReadsGreeting (drop 4 (take written.length filled)) shown
    → Shows (drop 4 (take written.length filled)) (asking path host) shown
read_back path host buffer filled written shown writes done reads =
    let it = written_well path host buffer filled written writes done in
    let bytes : List ℕ = drop 4 (take written.length filled) in
    let is : IsGreeting (asking path host) bytes = subst (λ (l : List ℕ). IsGreeting (asking path host) l) (sym it.there) it.is_greeting in
    elim reads [
      | inl one ↦ subst (λ (g : Greeting). Shows bytes g shown) (one_greeting_alone one.g (asking path host) bytes one.is_greeting is) one.shows
      | inr none ↦ absurd (none.0 (asking path host) is)
    ]
