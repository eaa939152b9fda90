-- The functions that make a handle and take its box out, proved once for all handles: they are the same up to the type of the box.
-- Shape says what a handle is, and Contents.antt beside this file has those of this crate. None, Of and Taken have the lemma for
-- each function, over the steps of Steps and Into. Send says when a handle may go to another thread.
pub mod Into
pub mod None
pub mod Of
pub mod Send
pub mod Shape
pub mod Steps
pub mod Taken
