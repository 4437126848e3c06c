-- What is shown if the requests with one command are looked for.
use Rattle.std.proofs.Common.{◌≡◌, ℕ, Bool, true, false, List, [], ◌∷◌, ◌++◌, drop, flat_map, Option, Some, None, Result, Bor}
use Rattle.std.proofs.Common.{refl, sym, ap, ◌∙◌, if◌then◌else◌, ◌&&◌, nat_lt}
use Rattle.std.specs.List.{filter}
use Rattle.git_pkt.specs.Packets.{Pkt, flush, delim, resp_end, payload}
use Rattle.git_pkt.specs.Splits.{Given}
use Rattle.git2show_lib.specs.PrettyLines.{label_of}
use Rattle.git2show_lib.specs.PacketViews.{begins_request, counted, first_of, goes_on, has_command, is_asked, is_command, is_flush, is_pack}
use Rattle.git2show_lib.specs.PacketViews.{looked_for, of_any_command, requests_of, requests_with, shown, request_after, strays, strays_of}
use Rattle.git2show_lib.specs.PacketViews.{tally_of, viewed, with_first}
use Rattle.git2show_lib.specs.Machine.ShownStream.{ShowsRequests, ShowsView}
use Rattle.git_pkt.specs.Streams.{Flow, Moves}
use Rattle.git_pkt.specs.declared.fault.RunFault.{RunFault}
use Rattle.git2show_lib.specs.declared.views.RequestState.{RequestState}
use Rattle.git2show_lib.specs.declared.views.Tally.{Tally}
use Rattle.git2show_lib.specs.declared.views.View.{View}

module _ (word : Bor (List ℕ)) where
  -- the packets that are looked for, packet by packet
  abbrev wanted : RequestState → List Given → List Given
  wanted request [] = []
  wanted request (g ∷ given) =
      (if is_asked (Some word) request g.packet then g ∷ [] else []) ++ wanted (request_after (Some word) request g.packet) given

  abbrev joined : List (List Given) → List Given
  joined requests = flat_map (λ r. r) (filter (has_command word.now) requests)

  -- those of requests: the first has begun, or has not
  abbrev begun : RequestState → List (List Given) → List Given
  begun RequestState.Between requests = joined requests
  begun RequestState.Wanted [] = []
  begun RequestState.Wanted (r ∷ requests) = r ++ joined requests
  begun RequestState.Unwanted [] = []
  begun RequestState.Unwanted (r ∷ requests) = joined requests

  one_more : (request : RequestState) (g : Given) (given : List Given) (requests : List (List Given)) (f c : Bool) → is_flush g.packet ≡ f
      → is_command word.now g.packet ≡ c → ((s : RequestState) → wanted s given ≡ begun s requests)
      → wanted request (g ∷ given) ≡ begun request (if f then (g ∷ []) ∷ requests else with_first g requests)
  one_more RequestState.Between g given requests true true f c so = rw (f, c, so RequestState.Between) refl
  one_more RequestState.Between g given requests true false f c so = rw (f, c, so RequestState.Between) refl
  one_more RequestState.Between g given [] false true f c so = rw (f, c, so RequestState.Wanted) refl
  one_more RequestState.Between g given (r ∷ requests) false true f c so = rw (f, c, so RequestState.Wanted) refl
  one_more RequestState.Between g given [] false false f c so = rw (f, c, so RequestState.Unwanted) refl
  one_more RequestState.Between g given (r ∷ requests) false false f c so = rw (f, c, so RequestState.Unwanted) refl
  one_more RequestState.Wanted g given requests true c f d so = rw (f, so RequestState.Between) refl
  one_more RequestState.Wanted g given [] false c f d so = rw (f, so RequestState.Wanted) refl
  one_more RequestState.Wanted g given (r ∷ requests) false c f d so = rw (f, so RequestState.Wanted) refl
  one_more RequestState.Unwanted g given requests true c f d so = rw (f, so RequestState.Between) refl
  one_more RequestState.Unwanted g given [] false c f d so = rw (f, so RequestState.Unwanted) refl
  one_more RequestState.Unwanted g given (r ∷ requests) false c f d so = rw (f, so RequestState.Unwanted) refl

  wanted_is : (given : List Given) (request : RequestState) → wanted request given ≡ begun request (requests_of given)
  wanted_is [] RequestState.Between = refl
  wanted_is [] RequestState.Wanted = refl
  wanted_is [] RequestState.Unwanted = refl
  wanted_is (g ∷ given) request =
      one_more request g given (requests_of given) (is_flush g.packet) (is_command word.now g.packet) refl refl (wanted_is given)

  -- ---- the packfile section, in the whole stream and in what is shown of it

  abbrev Fits : RequestState → Bool → Bool → Type 0
  Fits RequestState.Between a b = (a ≡ false) × (b ≡ false)
  Fits RequestState.Wanted a b = a ≡ b
  Fits RequestState.Unwanted a b = b ≡ false

  flush_ends : (p : Pkt) (a : Bool) → is_flush p ≡ true → goes_on a p ≡ false
  flush_ends flush a is = refl
  flush_ends delim a is = refl
  flush_ends resp_end a is = refl
  flush_ends (payload bytes) a is = absurd (cc)

  same_pack : (s : RequestState) (a b : Bool) (p : Pkt) → is_asked (Some word) s p ≡ true → Fits s a b → a ≡ b
  same_pack RequestState.Between a b p asked fits = fits.0 ∙ sym fits.1
  same_pack RequestState.Wanted a b p asked fits = fits
  same_pack RequestState.Unwanted a b p asked fits = absurd (cc)

  with_it : (s : RequestState) (a b : Bool) (p : Pkt) → is_asked (Some word) s p ≡ true → Fits s a b
      → Fits (request_after (Some word) s p) (goes_on a p) (goes_on b p)
  with_it s a b p asked fits = at s (is_flush p) refl (is_command word.now p) refl asked fits where
    at : (s : RequestState) (f : Bool) → is_flush p ≡ f → (c : Bool) → is_command word.now p ≡ c → is_asked (Some word) s p ≡ true → Fits s a b
        → Fits (request_after (Some word) s p) (goes_on a p) (goes_on b p)
    at s true f c d asked fits = rw f (flush_ends p a f, flush_ends p b f)
    at RequestState.Between false f true d asked fits = rw (f, d) (ap (λ (x : Bool). goes_on x p) (fits.0 ∙ sym fits.1))
    at RequestState.Between false f false d asked fits = absurd (false_is_true (rw d at asked)) where
      false_is_true : false ≡ true → ⊥
      false_is_true e = absurd (cc)
    at RequestState.Wanted false f c d asked fits = rw f (ap (λ (x : Bool). goes_on x p) fits)
    at RequestState.Unwanted false f c d asked fits = absurd (cc)

  without_it : (s : RequestState) (a b : Bool) (p : Pkt) → is_asked (Some word) s p ≡ false → Fits s a b
      → Fits (request_after (Some word) s p) (goes_on a p) b
  without_it s a b p asked fits = at s (is_flush p) refl (is_command word.now p) refl asked fits where
    at : (s : RequestState) (f : Bool) → is_flush p ≡ f → (c : Bool) → is_command word.now p ≡ c → is_asked (Some word) s p ≡ false → Fits s a b
        → Fits (request_after (Some word) s p) (goes_on a p) b
    at RequestState.Between true f c d asked fits = rw f (flush_ends p a f, fits.1)
    at RequestState.Between false f true d asked fits = absurd (true_is_false (rw d at asked)) where
      true_is_false : true ≡ false → ⊥
      true_is_false e = absurd (cc)
    at RequestState.Between false f false d asked fits = rw (f, d) fits.1
    at RequestState.Wanted f g c d asked fits = absurd (cc)
    at RequestState.Unwanted true f c d asked fits = rw f (flush_ends p a f, fits)
    at RequestState.Unwanted false f c d asked fits = rw f fits

  module _ (view : View) (is : view.only ≡ Some word) where
    -- a packet that is looked for has the line that it has without the others, and any other has none
    line_with : (t u : Tally) (g : Given) → is_asked (Some word) t.request g.packet ≡ true → t.in_pack ≡ u.in_pack
        → viewed (Some view) t g ≡ viewed (Some (of_any_command view)) u g
    line_with t u g asked same = rw (is, asked, same) refl

    line_without : (t : Tally) (g : Given) → is_asked (Some word) t.request g.packet ≡ false → viewed (Some view) t g ≡ []
    line_without t g asked = at (nat_lt g.offset view.from) refl (view.no_pack && is_pack (label_of t.in_pack g.packet)) refl where
      at : (a : Bool) → nat_lt g.offset view.from ≡ a → (b : Bool) → (view.no_pack && is_pack (label_of t.in_pack g.packet)) ≡ b
          → viewed (Some view) t g ≡ []
      at true e b f = rw (is, asked, e) refl
      at false e true f = rw (is, asked, e, f) refl
      at false e false f = rw (is, asked, e, f) refl

    alone : (given : List Given) (t u : Tally) → Fits t.request t.in_pack u.in_pack
        → shown (Some view) t given ≡ shown (Some (of_any_command view)) u (wanted t.request given)
    alone [] t u fits = refl
    alone (g ∷ given) t u fits = at (is_asked (Some word) t.request g.packet) refl (alone given) where
      moved : (v : Tally) → shown (Some (of_any_command view)) v (wanted (request_after view.only t.request g.packet) given)
          ≡ shown (Some (of_any_command view)) v (wanted (request_after (Some word) t.request g.packet) given)
      moved v =
          ap (λ (o : Option (Bor (List ℕ))). shown (Some (of_any_command view)) v (wanted (request_after o t.request g.packet) given)) is

      at : (a : Bool) → is_asked (Some word) t.request g.packet ≡ a
          → ((t u : Tally) → Fits t.request t.in_pack u.in_pack
          → shown (Some view) t given ≡ shown (Some (of_any_command view)) u (wanted t.request given))
          → shown (Some view) t (g ∷ given) ≡ shown (Some (of_any_command view)) u (wanted t.request (g ∷ given))
      at true e later =
          let next = later (counted view.only t g) (counted None u g) (rw is (with_it t.request t.in_pack u.in_pack g.packet e fits)) in
          rw (line_with t u g e (same_pack t.request t.in_pack u.in_pack g.packet e fits), e)
          (ap (λ (l : List ℕ). viewed (Some (of_any_command view)) u g ++ l) (next ∙ moved (counted None u g)))
      at false e later =
          let next = later (counted view.only t g) u (rw is (without_it t.request t.in_pack u.in_pack g.packet e fits)) in
          rw (line_without t g e, e) (next ∙ moved u)

-- what is shown of a client's stream is what is shown of the requests with the command alone
pub shows_requests : (view : View) (word : Bor (List ℕ)) (start : Tally) (given : List Given) → view.only ≡ Some word
    → start.request ≡ RequestState.Between → start.in_pack ≡ false
    → shown (Some view) start given ≡ shown (Some (of_any_command view)) start (requests_with word.now given)
shows_requests view word start given is between outside =
    alone word view is given start start (rw between (outside, outside))
    ∙ ap (λ (gs : List Given). shown (Some (of_any_command view)) start gs) (rw between (wanted_is word given RequestState.Between))

shows_looked_for : (view : View) (start : Tally) (given : List Given) → start.request ≡ RequestState.Between → start.in_pack ≡ false
    → shown (Some view) start given ≡ shown (Some (of_any_command view)) start (looked_for view.only given)
shows_looked_for view start given between outside = at view.only refl where
  at : (only : Option (Bor (List ℕ))) → view.only ≡ only
      → shown (Some view) start given ≡ shown (Some (of_any_command view)) start (looked_for view.only given)
  at None e =
      ap (λ (o : Option (Bor (List ℕ))). shown (Some (record { form = view.form; from = view.from; no_pack = view.no_pack; only = o })) start given) e
      ∙ ap (λ (o : Option (Bor (List ℕ))). shown (Some (of_any_command view)) start (looked_for o given)) (sym e)
  at (Some word) e =
      shows_requests view word start given e between outside
      ∙ ap (λ (o : Option (Bor (List ℕ))). shown (Some (of_any_command view)) start (looked_for o given)) (sym e)

-- a run with a view shows the packets that the view looks for
pub with_requests : {broken ended : Bool} {turns : ℕ} {view : View} {start final : Tally} {result : Result (Unit {0}) RunFault} {readers writers : List Flow}
    → start.request ≡ RequestState.Between → start.in_pack ≡ false
    → Moves broken (ShowsView (Some view) start final result ended turns) readers writers
    → Moves broken (ShowsRequests view start result ended turns) readers writers
with_requests {view = view} {start = start} between outside ran =
    let shows = ran.related.shows in
    record {
      used = ran.used;
      given = ran.given;
      read = ran.read;
      written = ran.written;
      related = record {
        used = shows.used;
        unused = shows.unused;
        packets = shows.packets;
        rest = shows.rest;
        cut = shows.cut;
        splits = shows.splits;
        lines = shows.lines ∙ ap (λ (l : List ℕ). l ∷ []) (shows_looked_for view start shows.packets between outside);
        ends = shows.ends;
      };
    }

-- ---- the first packet that begins no request

-- those of requests: the first has begun, or has not
abbrev strays_begun : RequestState → List (List Given) → List ℕ
strays_begun RequestState.Between requests = flat_map strays_of requests
strays_begun request requests = flat_map strays_of (drop 1 requests)

module _ (view : View) (word : Bor (List ℕ)) (is : view.only ≡ Some word) where
  stays : (given : List Given) (t : Tally) (n : ℕ) → t.stray ≡ Some n → (tally_of (Some view) t given).stray ≡ Some n
  stays [] t n e = e
  stays (g ∷ given) t n e = stays given (counted view.only t g) n (rw e refl)

  -- the requests after one packet more
  more_begun : (request : RequestState) (g : Given) (requests : List (List Given)) (f b : Bool) → is_flush g.packet ≡ f → begins_request g.packet ≡ b
      → (request ≡ RequestState.Between → b ≡ true)
      → strays_begun (request_after (Some word) request g.packet) requests
      ≡ strays_begun request (if f then (g ∷ []) ∷ requests else with_first g requests)
  more_begun RequestState.Between g requests true true f b only = rw (f, b) refl
  more_begun RequestState.Between g [] false true f b only = rw (f, b) (none (is_command word.now g.packet)) where
    none : (c : Bool) → strays_begun (if c then RequestState.Wanted else RequestState.Unwanted) [] ≡ []
    none true = refl
    none false = refl
  more_begun RequestState.Between g (r ∷ requests) false true f b only = rw (f, b) (rest (is_command word.now g.packet)) where
    rest : (c : Bool) → strays_begun (if c then RequestState.Wanted else RequestState.Unwanted) (r ∷ requests) ≡ flat_map strays_of requests
    rest true = refl
    rest false = refl
  more_begun RequestState.Between g requests f false e b only = absurd (false_is_true (only refl)) where
    false_is_true : false ≡ true → ⊥
    false_is_true e = absurd (cc)
  more_begun RequestState.Wanted g requests true b e d only = rw e refl
  more_begun RequestState.Wanted g [] false b e d only = rw e refl
  more_begun RequestState.Wanted g (r ∷ requests) false b e d only = rw e refl
  more_begun RequestState.Unwanted g requests true b e d only = rw e refl
  more_begun RequestState.Unwanted g [] false b e d only = rw e refl
  more_begun RequestState.Unwanted g (r ∷ requests) false b e d only = rw e refl

  -- what is to be shown of the packets after one
  abbrev Later : List Given → Type 0
  Later given = (u : Tally) → u.stray ≡ None → (tally_of (Some view) u given).stray ≡ first_of (strays_begun u.request (requests_of given))

  first_stray : (given : List Given) (t : Tally) → t.stray ≡ None
      → (tally_of (Some view) t given).stray ≡ first_of (strays_begun t.request (requests_of given))
  first_stray [] t none = at t.request where
    at : (s : RequestState) → t.stray ≡ first_of (strays_begun s [])
    at RequestState.Between = none
    at RequestState.Wanted = none
    at RequestState.Unwanted = none
  first_stray (g ∷ given) t none = at t.request refl (begins_request g.packet) refl (first_stray given) where
    on : (s : RequestState) → t.request ≡ s → (s ≡ RequestState.Between → begins_request g.packet ≡ true) → (counted view.only t g).stray ≡ None → Later given
        → (tally_of (Some view) t (g ∷ given)).stray ≡ first_of (strays_begun t.request (requests_of (g ∷ given)))
    on s e only still later =
        later (counted view.only t g) still
        ∙ ap first_of (rw (is, e) (more_begun s g (requests_of given) (is_flush g.packet) (begins_request g.packet) refl refl only))

    at : (s : RequestState) → t.request ≡ s → (b : Bool) → begins_request g.packet ≡ b → Later given
        → (tally_of (Some view) t (g ∷ given)).stray ≡ first_of (strays_begun t.request (requests_of (g ∷ given)))
    at RequestState.Between e true b later = on RequestState.Between e (λ same. b) (rw (is, none, e, b) refl) later
    at RequestState.Between e false b later =
        stays given (counted view.only t g) g.offset (rw (is, none, e, b) refl) ∙ rw e (sym (here (is_flush g.packet) (requests_of given)))
      where
        here : (f : Bool) (requests : List (List Given))
            → first_of (flat_map strays_of (if f then (g ∷ []) ∷ requests else with_first g requests)) ≡ Some g.offset
        here true requests = rw b refl
        here false [] = rw b refl
        here false (r ∷ requests) = rw b refl
    at RequestState.Wanted e c b later = on RequestState.Wanted e (λ same. absurd (cc)) (rw (is, none, e) refl) later
    at RequestState.Unwanted e c b later = on RequestState.Unwanted e (λ same. absurd (cc)) (rw (is, none, e) refl) later

-- the first packet where a request begins that begins none
pub finds_stray : (view : View) (word : Bor (List ℕ)) (start : Tally) (given : List Given) → view.only ≡ Some word → start.request ≡ RequestState.Between
    → start.stray ≡ None → (tally_of (Some view) start given).stray ≡ first_of (strays given)
finds_stray view word start given is between none =
    first_stray view word is given start none ∙ ap (λ (s : RequestState). first_of (strays_begun s (requests_of given))) between
