-- What the image promises (01, "Calls, refusals and their order"): a valid state comes back from its image, bytes that decode are
-- the image of the state they give, which is valid, and no other bytes decode. The codec's laws, for this state.
use Rattle.std.specs.Prelude.{ℕ, ◌↔◌, ◌≡◌, true, false, List, Option, Some, None, T, length}
use Rattle.std.proofs.Common.{sym, ap, ◌∙◌}
use Rattle.std.proofs.lemmas.Option.{none-some}
use Rattle.truth.specs.Tests.{by_test}
use Rattle.codec.proofs.Laws.{encode_apart, encoded_back, decoded_both, decoded_exactly, decoded_other}
use Rattle.wire.specs.declared.Line.{Line}
use Rattle.mssp.specs.declared.Phase.{Phase}
use Rattle.mssp.specs.declared.Module.{Module}
use Rattle.mssp.specs.Module.{module_of}
use Rattle.firmware.specs.declared.State.{State}
use Rattle.firmware.specs.Handler.{state_of}
use Rattle.module_image.specs.ModulePart.{with_module, with_stand}
use Rattle.image.specs.Image.{image_length, valid_state, encode_of, parse_of, is_state, decode_of}
use Rattle.image.specs.Laws.{parse_encode, encode_length, with_module_lem, with_stand_lem}

-- Every valid state comes back from its image.
pub decode_encode : (s : State) → T (valid_state s) → decode_of (encode_of s) ≡ Some s
unfolding decode_of
decode_encode = encoded_back encode_of parse_of valid_state parse_encode

module _ (b : List ℕ) where
  -- What decodes is valid, and the bytes are its image.
  pub decode_image : (s : State) → decode_of b ≡ Some s → encode_of s ≡ b
  unfolding decode_of
  decode_image s e = (decoded_both encode_of parse_of valid_state parse_encode b s e).0

  pub decode_valid : (s : State) → decode_of b ≡ Some s → T (valid_state s)
  unfolding decode_of
  decode_valid s e = (decoded_both encode_of parse_of valid_state parse_encode b s e).1

  -- Both ways at once: bytes decode to a state exactly if they are its image and it is valid.
  pub decode_exactly : (s : State) → (decode_of b ≡ Some s) ↔ ((encode_of s ≡ b) × T (valid_state s))
  unfolding decode_of
  decode_exactly = decoded_exactly encode_of parse_of valid_state parse_encode b

  -- Bytes that are the image of no valid state decode to none, of whatever length they are.
  pub decode_other : ((s : State) → T (valid_state s) → encode_of s ≡ b → ⊥) → decode_of b ≡ None
  unfolding decode_of
  decode_other = decoded_other encode_of parse_of valid_state parse_encode b

  pub decode_length : (length b ≡ image_length → ⊥) → decode_of b ≡ None
  decode_length other = decode_other (λ s v e. other (sym (ap length e) ∙ encode_length s))

  -- ---- by whether the bytes were found to be an image
  pub is_state_lem : is_state b ≡ true → decode_of b ≡ Some (parse_of b)
  unfolding is_state decode_of
  is_state_lem t = rw t

  pub not_state : is_state b ≡ false → decode_of b ≡ None
  unfolding is_state decode_of
  not_state f = rw f

  pub other_length : (length b ≡ image_length → ⊥) → is_state b ≡ false
  other_length other =
      by_test (is_state b) (λ t. absurd (none-some (parse_of b) (sym (decode_length other) ∙ is_state_lem t))) (λ f. f)

  pub state_image : is_state b ≡ true → encode_of (parse_of b) ≡ b
  state_image t = decode_image (parse_of b) (is_state_lem t)

  pub state_valid : is_state b ≡ true → T (valid_state (parse_of b))
  state_valid t = decode_valid (parse_of b) (is_state_lem t)

  pub state_length : is_state b ≡ true → length b ≡ image_length
  state_length t = sym (ap length (state_image t)) ∙ encode_length (parse_of b)

  -- What is written over a part of it leaves the image of a state.
  pub module_over : is_state b ≡ true → (n : Module) → with_module n b ≡ encode_of (state_of n (parse_of b).handler)
  module_over t n = ap (with_module n) (sym (state_image t)) ∙ with_module_lem n (parse_of b)

  pub stand_over :
      is_state b ≡ true → (ph : Phase) (line : Line) → let s : State = parse_of b in
      with_stand ph line b ≡ encode_of (state_of (module_of s.mssp.config s.mssp.live ph line) s.handler)
  stand_over t ph line = ap (with_stand ph line) (sym (state_image t)) ∙ with_stand_lem ph line (parse_of b)

  -- Bytes that were found to be an image are as long as every other.
  pub image_length_lem :
      {d : Option State} {s : State} (next : State) → d ≡ decode_of b → d ≡ Some s → length b ≡ length (encode_of next)
  image_length_lem {s = s} next decoded e =
      sym (ap length (decode_image s (sym decoded ∙ e))) ∙ encode_length s ∙ sym (encode_length next)

-- Two states with one image are one state.
pub encode_injective : (s t : State) → encode_of s ≡ encode_of t → s ≡ t
encode_injective = encode_apart encode_of parse_of valid_state parse_encode
