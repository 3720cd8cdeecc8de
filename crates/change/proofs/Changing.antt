-- What a change of an action's amounts keeps: the type, the expiry, the data's length, the mint; and that they stay bytes.
-- Assumes nothing.
use mathlib.Core.Path.{◌≡◌, refl, sym, ap, subst, ◌∙◌}
use mathlib.Core.Bool.{true}
use mathlib.Core.List.{List}
use Prim.Native.Nat.{ℕ, ◌+◌, ◌≤◌}
use native.Mathlib.Omega.{arith}
use lib.Dec.{lit≤}
use lib.ListN.{length, take, drop, length-append, length-take, length-drop}
use lib.Seq.{take_at, drop_at, length-take-le}
use Rattle.number.specs.Number.{with_number_at, Bytes}
use Rattle.number.proofs.Laws.{read_before, read_after, length_with_number, bytes_take, bytes_drop, bytes_append, bytes_with_number}
use Rattle.action.specs.Action.{Action, data_length}
use Rattle.action.specs.Fields.{is_token, is_recurring, key_of, mint_length, amounts_of, window}
use Rattle.action.proofs.Regular.{Regular, mint_there, amounts_there}
use Rattle.change.specs.declared.Change.{Change}
use Rattle.change.specs.declared.Change.TheVariants.{Nothing, Remaining, Spent}
use Rattle.change.specs.Changed.{with_amounts, changed_amounts, changed}

length_changed_amounts : (change : Change) (amounts : List ℕ) → length (changed_amounts change amounts) ≡ length amounts
length_changed_amounts Nothing amounts = refl
length_changed_amounts (Remaining n) amounts = length_with_number 8 amounts 0 n
length_changed_amounts (Spent x y) amounts = length_with_number 8 _ 24 y ∙ length_with_number 8 amounts 8 x

bytes_changed_amounts : (change : Change) (amounts : List ℕ) → Bytes amounts → Bytes (changed_amounts change amounts)
bytes_changed_amounts Nothing amounts h = h
bytes_changed_amounts (Remaining n) amounts h = bytes_with_number 8 amounts 0 n h
bytes_changed_amounts (Spent x y) amounts h = bytes_with_number 8 _ 24 y (bytes_with_number 8 amounts 8 x h)

module _ (change : Change) (a : Action) where
  pub changed_kind : (changed change a).kind ≡ a.kind
  unfolding changed with_amounts
  changed_kind = refl

  pub changed_expires : (changed change a).expires ≡ a.expires
  unfolding changed with_amounts
  changed_expires = refl

  pub changed-length : length (changed change a).payload ≡ length a.payload
  unfolding changed with_amounts amounts_of
  changed-length =
      length-append (take (mint_length a.kind) a.payload) _
      ∙ ap (λ (n : ℕ). length (take (mint_length a.kind) a.payload) + n) (length_changed_amounts change _)
      ∙ rw (length-take (mint_length a.kind) a.payload, length-drop (mint_length a.kind) a.payload) (omega arith)

  pub changed_bytes : Bytes a.payload → Bytes (changed change a).payload
  unfolding changed with_amounts amounts_of
  changed_bytes h =
      bytes_append (take (mint_length a.kind) a.payload) (changed_amounts change (drop (mint_length a.kind) a.payload))
      (bytes_take (mint_length a.kind) a.payload h)
      (bytes_changed_amounts change (drop (mint_length a.kind) a.payload) (bytes_drop (mint_length a.kind) a.payload h))

  module _ (there : mint_length a.kind ≤ length a.payload) where
    pub changed_amounts_lem : amounts_of (changed change a) ≡ changed_amounts change (amounts_of a)
    unfolding changed with_amounts amounts_of
    changed_amounts_lem = drop_at (take (mint_length a.kind) a.payload) _ (mint_length a.kind) (length-take-le _ a.payload there)

    pub changed_mint : take (mint_length a.kind) (changed change a).payload ≡ take (mint_length a.kind) a.payload
    unfolding changed with_amounts
    changed_mint = take_at (take (mint_length a.kind) a.payload) _ (mint_length a.kind) (length-take-le _ a.payload there)

    pub changed_key : is_token a.kind ≡ true → key_of (changed change a) ≡ key_of a
    unfolding key_of
    changed_key t =
        let long : mint_length a.kind ≡ 32 = rw t in
        subst (λ (n : ℕ). take n (changed change a).payload ≡ take n a.payload) long changed_mint

module _ {a : Action} (r : Regular a) where
  pub changed_regular : (change : Change) → Regular (changed change a)
  changed_regular change =
      record {
        known = rw (changed_kind change a) r.known;
        soon = rw (changed_expires change a) r.soon;
        sized = changed-length change a ∙ r.sized ∙ ap data_length (sym (changed_kind change a));
        bytes = changed_bytes change a r.bytes;
      }

  -- no change writes a window's length
  pub window_kept : is_recurring a.kind ≡ true → (change : Change) → window (amounts_of (changed change a)) ≡ window (amounts_of a)
  window_kept e change = ap window (changed_amounts_lem change a (mint_there r)) ∙ go change
    where
      room : 32 ≤ length (amounts_of a)
      room = rw e at (amounts_there r)

      go : (c : Change) → window (changed_amounts c (amounts_of a)) ≡ window (amounts_of a)
      go Nothing = refl
      go (Remaining n) = read_after 8 (amounts_of a) 0 n 16 (lit≤ tt) (omega (arith, room))
      go (Spent x y) =
          read_before 8 (with_number_at 8 (amounts_of a) 8 x) 24 y 16 (lit≤ tt) (rw (length_with_number 8 (amounts_of a) 8 x) room)
          ∙ read_after 8 (amounts_of a) 8 x 16 (lit≤ tt) (omega (arith, room))
