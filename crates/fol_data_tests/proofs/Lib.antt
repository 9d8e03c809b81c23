mod Returning
mod SingleTask
mod TwoChunks
mod OneTask
mod Taken
