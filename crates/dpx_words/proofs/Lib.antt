mod Seeds
mod WalkOfWords
