-- The lines of a script, read one by one.
use Rattle.std.specs.Prelude.{MatchOption}
use Rattle.std.specs.Option.{option_copied}
use Rattle.std.proofs.Common.{arith, ◌≡◌, ℕ, ◌+◌, ◌<◌, ◌≤◌, Bor, Option, Some, None, List, [], ◌∷◌, ◌++◌, refl, ap, sym, ◌∙◌, subst, append_assoc}
use Rattle.std.proofs.Common.{length, length-append, inl, inr}
use Rattle.git_pkt.specs.Packets.{text_of}
use Rattle.git_pkt.proofs.Texts.{text_loses_a_line_end}
use Rattle.git_msg.specs.Texts.{parts_left, parts_of}
use Rattle.git_msg.specs.declared.offers.Offer.{Offer}
use Rattle.git_msg.specs.ItemsInOrder.{AreItems, IsBadAt, StopsAt}
use Rattle.git_msg.proofs.ItemLaws.{items_more}
use Rattle.git_msg.proofs.TextParts.{bytes_left}
use Rattle.git_repository.specs.RepositoryLines.{lines_of}
use Rattle.git_repository.specs.declared.text_faults.LineFault.TheVariants.{Refused, OutOfMemory}
use Rattle.git2show_lib.specs.Scripts.{ScriptLine, HasBadScriptLine, LacksScriptMemory, MayFollow, WantsScriptMemory}
use Rattle.git2show_lib.specs.Machine.HeldScripts.{Held, Holds, IsLineFault, TakesLine, nothing_held}
use Rattle.git2show_lib.proofs.Scripting.{holds_nothing}

-- a text without its line end is no longer
cut_shorter : (text : List ℕ) → length (text_of text) ≤ length text
cut_shorter text = elim (text_loses_a_line_end text) [
  | inl same ↦ omega (arith, ap length same)
  | inr less ↦ omega (arith, ap length less, length-append (text_of text) (10 ∷ []))
]

-- a line takes a byte at least
pub room_at_all : (text cut : List ℕ) → cut ≡ text_of text → 0 + bytes_left (Some cut) ≤ length text + 1
room_at_all text cut is = omega (arith, cut_shorter text, ap length is)

-- and so do those after it
pub buffer_behind : (most line : ℕ) (left : List ℕ) (rest : Option (Bor (List ℕ))) → line + (length left + 1) ≤ most + 1
    → MatchOption rest (Unit {0}) (λ r. length r.now < length left) → line + 1 + bytes_left (option_copied rest) ≤ most + 1
buffer_behind most line left None space h = omega (arith, space)
buffer_behind most line left (Some r) space h = omega (arith, space, h)

module _ {A : Type 0} where
  -- some lines were read, after which this is held, and this is left
  pub record ReadsScript (text : List ℕ) (offer : Offer) (limit : ℕ) (held : Held A) (line : ℕ) (rest : Option (List ℕ)) : Type 0 where
    pub before : List (List ℕ)
    pub whole : lines_of text ≡ before ++ parts_left 10 rest
    pub lines : List ScriptLine
    pub follow : AreItems (MayFollow offer limit) [] before lines
    pub count : line ≡ length lines
    pub holds : Holds lines held
    pub offer_is : held.offer ≡ offer
    pub limit_is : held.limit ≡ limit

  pub started : (text cut : List ℕ) (offer : Offer) (limit : ℕ) (held : Held A) → cut ≡ text_of text → held ≡ nothing_held offer limit
      → ReadsScript text offer limit held 0 (Some cut)
  started text cut offer limit held is nothing = record {
    before = [];
    whole = ap (parts_of 10) (sym is);
    lines = [];
    follow = tt;
    count = refl;
    holds = subst (Holds []) (sym nothing) (holds_nothing offer limit);
    offer_is = ap (λ (h : Held A). h.offer) nothing;
    limit_is = ap (λ (h : Held A). h.limit) nothing;
  }

  -- the next line
  module _ {text left this : List ℕ} {offer : Offer} {limit : ℕ} {old : Held A} {line : ℕ} (next : Option (List ℕ))
      (h : ReadsScript text offer limit old line (Some left)) (parts : parts_of 10 left ≡ this ∷ parts_left 10 next) where
    whole_now : lines_of text ≡ h.before ++ this ∷ parts_left 10 next
    whole_now = h.whole ∙ ap (λ (ls : List (List ℕ)). h.before ++ ls) parts

    -- is taken
    pub stepped : {new : Held A} → TakesLine old this new → ReadsScript text offer limit new (line + 1) next
    stepped takes =
        let goes = takes h.lines h.holds in
        record {
          before = h.before ++ this ∷ [];
          whole = whole_now ∙ sym (append_assoc h.before (this ∷ []) (parts_left 10 next));
          lines = h.lines ++ goes.line ∷ [];
          follow = items_more (MayFollow offer limit) [] h.before h.lines this goes.line h.follow (rw (h.offer_is, h.limit_is) at goes.may_follow);
          count = omega (arith, h.count, length-append h.lines (goes.line ∷ []));
          holds = goes.holds;
          offer_is = goes.same_offer ∙ h.offer_is;
          limit_is = goes.same_limit ∙ h.limit_is;
        }

    stops_at : (Why : List ScriptLine → List ℕ → Type 0) → Why h.lines this → StopsAt (MayFollow offer limit) Why (lines_of text)
    stops_at Why why =
        record { front = h.before; at = this; back = parts_left 10 next; items = h.lines; whole = whole_now; taken = h.follow; why = why }

    -- may not follow: so it is the first bad one
    pub refused_at : (refuses : ℕ → Type 0) (each : ℕ) → IsLineFault refuses each old this Refused → HasBadScriptLine offer limit (lines_of text) (line + 1)
    refused_at refuses each fault = stops_at (IsBadAt (MayFollow offer limit) 1 (line + 1)) (record {
      at_number = omega (arith, h.count);
      refused = λ one may. fault h.lines h.holds one (rw (h.offer_is, h.limit_is) may);
    })

    -- may follow, and there is no memory for it
    pub no_memory_at : (refuses : ℕ → Type 0) (each : ℕ) → IsLineFault refuses each old this OutOfMemory
        → WantsScriptMemory refuses each offer limit (lines_of text)
    no_memory_at refuses each fault = stops_at (LacksScriptMemory refuses each offer limit)
        (subst (λ (o : Offer). LacksScriptMemory refuses each o limit h.lines this) h.offer_is
        (subst (λ (n : ℕ). LacksScriptMemory refuses each old.offer n h.lines this) h.limit_is (fault h.lines h.holds)))
